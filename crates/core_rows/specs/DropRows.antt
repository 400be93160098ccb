-- Runs of lists of two exchanges: each retirement comes right after its exchange, n7 counts those that succeeded, and an
-- exchange after one that failed isn't made.
use Rattle.std.specs.Prelude.{◌≡◌, ℕ, List, [], ◌∷◌, ◌++◌, Some}
use Rattle.norm_lang.specs.declared.reply.SourceReply.TheVariants as replies
use Rattle.oa_words.specs.Words.{Cell}
use Rattle.caller_parts.specs.Settings.{Setting}
use Rattle.core_runs.specs.Machine.{CoreEvent}
use Rattle.core_rows.specs.Short.{call_of, setting_of, no_slots}
use Rattle.core_rows.specs.SmallTargets.{drops_target}
use Rattle.core_rows.specs.Stories.{Line, story, lines_after, left_after, steps, calls, begins, passes, renews, reads, exchanges, guards, clears, retires}

abbrev pub drops_setting : ℕ → Setting
drops_setting callers = setting_of callers 2 1 2 2 1000

-- both roots hold nodes: each exchange is followed by its retirement, and then come the clears
abbrev pub drop_lines : List Line
drop_lines = story (
    (begins 0 1 (call_of 0 0) ∷ reads (Cell 0) 2 ∷ passes 0 1 ∷ reads (Cell 1) 4 ∷ passes 0 1 ∷ [])
    ∷ (guards 0 0 1 ∷ guards 0 2 0 ∷ guards 0 1 2 ∷ passes 0 1 ∷ [])
    ∷ (exchanges (Cell 0) 2 0 2 ∷ [])
    ∷ retires 1 1 6
    ∷ (exchanges (Cell 1) 4 0 4 ∷ [])
    ∷ retires 2 1 6
    ∷ (clears 0 0 ∷ clears 0 1 ∷ renews 0 1 ∷ [])
    ∷ [])

-- both hold null: null is exchanged for null, and isn't retired. Guards of null need no clear
abbrev pub drop_nulls : List Line
drop_nulls =
    begins 0 1 (call_of 0 0)
    ∷ reads (Cell 0) 0
    ∷ passes 0 1
    ∷ reads (Cell 1) 0
    ∷ passes 0 1
    ∷ guards 0 0 0
    ∷ guards 0 2 0
    ∷ guards 0 1 0
    ∷ passes 0 1
    ∷ exchanges (Cell 0) 0 0 0
    ∷ exchanges (Cell 1) 0 0 0
    ∷ renews 0 1
    ∷ []

-- caller 0 stands before its list, and caller 1 makes a whole `drop_right`
abbrev pub right_dropped : List CoreEvent
right_dropped = calls 0 (call_of 0 0) 9 ++ calls 1 (call_of 1 0) 11

-- the second exchange fails: its operand isn't retired
abbrev pub drop_one : List Line
drop_one = story (
    (exchanges (Cell 0) 2 0 2 ∷ [])
    ∷ retires 1 1 6
    ∷ (exchanges (Cell 1) 4 0 0 ∷ clears 0 0 ∷ clears 0 1 ∷ renews 0 1 ∷ [])
    ∷ [])

-- caller 0 stands before its list, and caller 1 makes a whole `drop`
abbrev pub both_dropped : List CoreEvent
both_dropped = calls 0 (call_of 0 0) 9 ++ calls 1 (call_of 0 0) 18

-- the first exchange fails, and the second isn't made
abbrev pub drop_none : List Line
drop_none = exchanges (Cell 0) 2 0 0 ∷ clears 0 0 ∷ clears 0 1 ∷ renews 0 1 ∷ []

pub record DropRows : Type 0 where
  pub both : lines_after drops_target (drops_setting 1) [] (calls 0 (call_of 0 0) 18) ≡ drop_lines
  pub nulls : lines_after drops_target (drops_setting 1) (calls 0 (call_of 0 0) 18) (calls 0 (call_of 0 0) 12) ≡ drop_nulls
  pub both_left : left_after drops_target (drops_setting 1) (calls 0 (call_of 0 0) 18 ++ calls 0 (call_of 0 0) 12) 0
      ≡ Some (record { replies = replies.Number 2 ∷ replies.Number 2 ∷ []; cradles = no_slots; restarts = 0; claims = 0 })
  pub one : lines_after drops_target (drops_setting 2) right_dropped (steps 0 7) ≡ drop_one
  pub one_left : left_after drops_target (drops_setting 2) (right_dropped ++ steps 0 7) 0
      ≡ Some (record { replies = replies.Number 1 ∷ []; cradles = no_slots; restarts = 0; claims = 0 })
  pub none : lines_after drops_target (drops_setting 2) both_dropped (steps 0 4) ≡ drop_none
  pub none_left : left_after drops_target (drops_setting 2) (both_dropped ++ steps 0 4) 0
      ≡ Some (record { replies = replies.Number 0 ∷ []; cradles = no_slots; restarts = 0; claims = 0 })
