-- Runs without nodes: the counter, a wrap-up that loads and begins again, the choice of a root, and exchanges on null.
use Rattle.std.specs.Prelude.{◌≡◌, true, false, List, [], ◌∷◌, ◌++◌, Some}
use Rattle.norm_lang.specs.declared.reply.SourceReply.TheVariants as replies
use Rattle.oa_words.specs.Words.{Warning, FieldOf, Cell}
use Rattle.caller_parts.specs.Settings.{Setting}
use Rattle.caller_steps.specs.Signs.{Begins, Accesses}
use Rattle.core_runs.specs.Machine.{CoreEvent, Takes}
use Rattle.core_rows.specs.Short.{call_of, setting_of, no_slots}
use Rattle.core_rows.specs.SmallTargets.{counter_target, tally_target, numbers_target}
use Rattle.core_rows.specs.Stories.{Line, Load, gives, lines_after, left_after, stands_after, steps, calls, begins, passes, ends, renews, reads, exchanges, guards}

abbrev pub counter_setting : Setting
counter_setting = setting_of 1 2 1 1 0 1000

-- five steps: the load at the begin, the root, the check, the exchange, and the load at the wrap-up's start
abbrev pub add_lines : List Line
add_lines =
    begins 0 1 (call_of 0 5)
    ∷ reads (Cell 0) 0
    ∷ passes 0 1
    ∷ exchanges (Cell 0) 0 5 0
    ∷ renews 0 1
    ∷ []

-- after `add 5`, two steps: the load at the begin, with which local code comes to the end of the empty list, and the load at
-- the wrap-up's start
abbrev pub nop_lines : List Line
nop_lines = gives (Load (Warning 0) 1) (Begins (call_of 1 0) ∷ Accesses ∷ []) ∷ renews 0 1 ∷ []

abbrev pub added : List CoreEvent
added = calls 0 (call_of 0 5) 5

pub record CounterRows : Type 0 where
  pub add : lines_after counter_target counter_setting [] added ≡ add_lines
  pub add_left : left_after counter_target counter_setting added 0 ≡ Some (record { replies = replies.Number 5 ∷ []; cradles = no_slots; restarts = 0; claims = 0 })
  pub nop : lines_after counter_target counter_setting added (calls 0 (call_of 1 0) 2) ≡ nop_lines
  pub nop_left : left_after counter_target counter_setting (added ++ calls 0 (call_of 1 0) 2) 0
      ≡ Some (record { replies = replies.Number 5 ∷ replies.Nothing ∷ []; cradles = no_slots; restarts = 0; claims = 0 })
  -- an ended call leaves the caller in its wrap-up, at the instruction that ended it; the next call stands at its generator's start
  pub ended : stands_after counter_target counter_setting added 0 ≡ Some (record { wrapup = true; at = 2 })
  pub taken : stands_after counter_target counter_setting (added ++ Takes 0 (call_of 0 7) ∷ []) 0 ≡ Some (record { wrapup = false; at = 0 })

abbrev pub tally_setting : Setting
tally_setting = setting_of 2 2 1 1 0 1000

-- caller 0 stands before the exchange of its `tally 5`, and caller 1 makes a whole `tally 3`
abbrev pub tally_disturbed : List CoreEvent
tally_disturbed = calls 0 (call_of 0 5) 3 ++ calls 1 (call_of 0 3) 7

-- the exchange fails, and the wrap-up loads the total before it begins again: this load's check comes to `again`, which the
-- source makes as an access, and the load of the warning after `again` is a restart. Then all goes well
abbrev pub tally_again : List Line
tally_again =
    exchanges (Cell 0) 0 5 3
    ∷ renews 0 1
    ∷ reads (Cell 0) 3
    ∷ ends 0 1
    ∷ renews 0 1
    ∷ reads (Cell 0) 3
    ∷ passes 0 1
    ∷ exchanges (Cell 0) 3 8 3
    ∷ renews 0 1
    ∷ reads (Cell 0) 8
    ∷ ends 0 1
    ∷ []

pub record AgainRows : Type 0 where
  pub lines : lines_after tally_target tally_setting tally_disturbed (steps 0 11) ≡ tally_again
  pub first_left : left_after tally_target tally_setting (tally_disturbed ++ steps 0 11) 0
      ≡ Some (record { replies = replies.Number 8 ∷ []; cradles = no_slots; restarts = 0; claims = 0 })
  pub other_left : left_after tally_target tally_setting (tally_disturbed ++ steps 0 11) 1
      ≡ Some (record { replies = replies.Number 3 ∷ []; cradles = no_slots; restarts = 0; claims = 0 })

abbrev pub numbers_setting : Setting
numbers_setting = setting_of 1 1 1 3 0 1000

-- 5 rem 2 is 1: the root one after the second
abbrev pub pick_third : List Line
pick_third = begins 0 1 (call_of 0 5) ∷ reads (Cell 2) 30 ∷ ends 0 1 ∷ renews 0 1 ∷ []

-- 4 rem 2 is 0: the second root
abbrev pub pick_second : List Line
pick_second = begins 0 1 (call_of 0 4) ∷ reads (Cell 1) 20 ∷ ends 0 1 ∷ renews 0 1 ∷ []

-- each exchange loads the field of slot 0, and has failed though what it expects stands there
abbrev pub null_lines : List Line
null_lines =
    begins 0 1 (call_of 1 0)
    ∷ guards 0 0 0
    ∷ passes 0 1
    ∷ reads (FieldOf 0 0) 0
    ∷ guards 0 0 0
    ∷ passes 0 1
    ∷ reads (FieldOf 0 0) 0
    ∷ renews 0 1
    ∷ []

abbrev pub picked_twice : List CoreEvent
picked_twice = calls 0 (call_of 0 5) 4 ++ calls 0 (call_of 0 4) 4

pub record NumberRows : Type 0 where
  pub third : lines_after numbers_target numbers_setting [] (calls 0 (call_of 0 5) 4) ≡ pick_third
  pub second : lines_after numbers_target numbers_setting (calls 0 (call_of 0 5) 4) (calls 0 (call_of 0 4) 4) ≡ pick_second
  pub picked : left_after numbers_target numbers_setting picked_twice 0
      ≡ Some (record { replies = replies.Number 30 ∷ replies.Number 20 ∷ []; cradles = no_slots; restarts = 0; claims = 0 })
  pub nulls : lines_after numbers_target numbers_setting [] (calls 0 (call_of 1 0) 8) ≡ null_lines
  -- 1, and not 9, from the exchange that failed; and the list's count is 0
  pub nulls_left : left_after numbers_target numbers_setting (calls 0 (call_of 1 0) 8) 0
      ≡ Some (record { replies = replies.Number 1 ∷ []; cradles = no_slots; restarts = 0; claims = 0 })
