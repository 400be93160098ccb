-- Runs of a generator and a wrap-up that count their argument up: whatever begins a generator again begins it with the
-- call's arguments. And the kept register's guard is cleared before a `new` and by `again` like any other.
use Rattle.std.specs.Prelude.{◌≡◌, ℕ, List, [], ◌∷◌, ◌++◌, Some}
use Rattle.norm_lang.specs.declared.reply.SourceReply.TheVariants as replies
use Rattle.oa_words.specs.Words.{FieldOf, Cell}
use Rattle.caller_parts.specs.Settings.{Setting}
use Rattle.core_runs.specs.Machine.{CoreEvent}
use Rattle.core_rows.specs.Short.{call_of, setting_of, no_slots}
use Rattle.core_rows.specs.SmallTargets.{press_target}
use Rattle.core_rows.specs.Stories.{Line, story, lines_after, left_after, steps, calls, begins, passes, ends, renews, reads, puts, exchanges, guards, clears, draws, looks, takes, retires, raises, warns, no_hazards, finds, frees, pushes}

abbrev pub press_setting : ℕ → ℕ → Setting
press_setting callers slots = setting_of callers slots 1 1 1 1000

-- `press 5` puts 6 in slot 2, and replies 7. The guard of r0 is cleared before the claim, and at the wrap-up's start it stays
abbrev pub press_lines : List Line
press_lines = story (
    (begins 0 1 (call_of 0 5) ∷ reads (Cell 0) 2 ∷ passes 0 1 ∷ guards 0 0 1 ∷ passes 0 1 ∷ exchanges (Cell 0) 2 2 2 ∷ [])
    ∷ (clears 0 0 ∷ [])
    ∷ takes 2 8194 0 8192 5
    ∷ (draws 2 0 ∷ passes 0 1 ∷ [])
    ∷ (puts (FieldOf 2 0) 6 ∷ guards 0 0 1 ∷ guards 0 1 2 ∷ passes 0 1 ∷ exchanges (Cell 0) 2 4 2 ∷ [])
    ∷ retires 1 1 6
    ∷ (clears 0 1 ∷ renews 0 1 ∷ reads (Cell 0) 4 ∷ ends 0 1 ∷ clears 0 0 ∷ [])
    ∷ [])

-- `press 7` sweeps and warns itself: the generator begins again with 7, and puts 8
abbrev pub press_restarts : List Line
press_restarts = story (
    (begins 0 1 (call_of 0 7) ∷ reads (Cell 0) 4 ∷ passes 0 1 ∷ guards 0 0 2 ∷ passes 0 1 ∷ exchanges (Cell 0) 4 4 4 ∷ [])
    ∷ (clears 0 0 ∷ looks 8192 ∷ [])
    ∷ raises 1 2
    ∷ (warns 0 2 1 ∷ [])
    ∷ no_hazards 0
    ∷ (finds 2 5 ∷ finds 1 6 ∷ frees 1 6 8 ∷ [])
    ∷ pushes 1 8192 0 16385
    ∷ takes 1 16385 0 16384 9
    ∷ (draws 1 0 ∷ renews 0 2 ∷ [])
    ∷ (reads (Cell 0) 4 ∷ passes 0 2 ∷ guards 0 0 2 ∷ passes 0 2 ∷ exchanges (Cell 0) 4 4 4 ∷ clears 0 0 ∷ draws 1 0 ∷ passes 0 2 ∷ [])
    ∷ (puts (FieldOf 1 0) 8 ∷ guards 0 0 2 ∷ guards 0 1 1 ∷ passes 0 2 ∷ exchanges (Cell 0) 4 2 4 ∷ [])
    ∷ retires 2 2 10
    ∷ (clears 0 1 ∷ renews 0 2 ∷ reads (Cell 0) 2 ∷ ends 0 2 ∷ clears 0 0 ∷ [])
    ∷ [])

abbrev pub pressed : List CoreEvent
pressed = calls 0 (call_of 0 5) 25

-- two callers, three slots: caller 0 stands before the list of its `press 7`, and caller 1 makes a whole `press 5`
abbrev pub overtaken : List CoreEvent
overtaken = calls 0 (call_of 0 7) 17 ++ calls 1 (call_of 0 5) 25

-- the exchange fails, and the wrap-up, which has counted to 9, begins again at once: the kept guard is cleared, and the
-- generator puts 8 once more
abbrev pub press_again : List Line
press_again =
    exchanges (Cell 0) 2 4 6
    ∷ clears 0 1
    ∷ renews 0 1
    ∷ clears 0 0
    ∷ renews 0 1
    ∷ reads (Cell 0) 6
    ∷ passes 0 1
    ∷ guards 0 0 3
    ∷ passes 0 1
    ∷ exchanges (Cell 0) 6 6 6
    ∷ clears 0 0
    ∷ draws 2 0
    ∷ passes 0 1
    ∷ puts (FieldOf 2 0) 8
    ∷ []

pub record PressRows : Type 0 where
  pub lines : lines_after press_target (press_setting 1 2) [] pressed ≡ press_lines
  pub restart : lines_after press_target (press_setting 1 2) pressed (calls 0 (call_of 0 7) 51) ≡ press_restarts
  pub left : left_after press_target (press_setting 1 2) (pressed ++ calls 0 (call_of 0 7) 51) 0
      ≡ Some (record { replies = replies.Number 7 ∷ replies.Number 9 ∷ []; cradles = no_slots; restarts = 1; claims = 2 })
  pub again : lines_after press_target (press_setting 2 3) overtaken (steps 0 14) ≡ press_again
  pub other_left : left_after press_target (press_setting 2 3) overtaken 1
      ≡ Some (record { replies = replies.Number 7 ∷ []; cradles = no_slots; restarts = 0; claims = 1 })
