-- Whole runs under epochs, by what is left at their end: those of the list that optimistic access makes too give the same answers, phases
-- and counts. And a call that begins again because its exchange failed.
use Rattle.std.specs.Prelude.{◌≡◌, List, [], ◌∷◌, ◌++◌, Some, Ok}
use Rattle.norm_lang.specs.declared.reply.SourceReply.TheVariants as replies
use Rattle.oa_words.specs.Words.{Warning, Cell}
use Rattle.target_code.specs.declared.target.Target.{Target}
use Rattle.target_code.specs.Bare.{bare}
use Rattle.caller_parts.specs.declared.setting.Reclamation.TheVariants.{Epochs}
use Rattle.caller_parts.specs.Settings.{Setting}
use Rattle.core_runs.specs.Machine.{CoreEvent}
use Rattle.core_rows.specs.Short.{call_of, setting_of, no_slots}
use Rattle.core_rows.specs.SmallTexts.{counter_text}
use Rattle.core_rows.specs.ReplayRows.{summary, insert, remove, contains, yes, no, rounds, two_each}
use Rattle.core_rows.specs.Stories.{Line, story, lines_after, left_after, steps, calls, reads, exchanges}
use Rattle.epoch_rows.specs.EpochStories.{list_code, list_setting, enters, enters_again, leaves, word_after}

pub record WholeRows : Type 0 where
  pub plain : summary list_code (list_setting 1 64 1000000000) ((insert 5 ∷ contains 5 ∷ remove 5 ∷ contains 5 ∷ []) ∷ []) []
      ≡ Ok (record { replies = (yes ∷ yes ∷ yes ∷ no ∷ []) ∷ []; phase = 1; claims = 1; restarts = 0 })
  -- slots 2 and 3 are used in turn: rounds 3, 5 and so on to 49 sweep once and begin once more
  pub recycling : summary list_code (list_setting 1 3 1000000000) (rounds 50 [] ∷ []) []
      ≡ Ok (record { replies = two_each 50 [] ∷ []; phase = 25; claims = 50; restarts = 24 })
  pub full : summary list_code (list_setting 1 3 1000000000) ((insert 1 ∷ insert 2 ∷ insert 3 ∷ contains 1 ∷ []) ∷ []) []
      ≡ Ok (record { replies = (yes ∷ yes ∷ replies.Full ∷ yes ∷ []) ∷ []; phase = 3; claims = 2; restarts = 0 })
  pub comes_back : summary list_code (list_setting 1 3 1000000000) ((insert 1 ∷ insert 2 ∷ remove 1 ∷ insert 3 ∷ contains 3 ∷ []) ∷ []) []
      ≡ Ok (record { replies = (yes ∷ yes ∷ yes ∷ yes ∷ yes ∷ []) ∷ []; phase = 2; claims = 3; restarts = 1 })
  pub phases_over : summary list_code (list_setting 1 3 2) (rounds 4 (insert 7 ∷ contains 7 ∷ []) ∷ []) []
      ≡ Ok (record { replies = two_each 4 (replies.Phases 2 ∷ no ∷ []) ∷ []; phase = 2; claims = 4; restarts = 1 })

-- ---- the counter by two callers

abbrev pub counter_code : Target
counter_code = bare counter_text

abbrev pub counter_setting : Setting
counter_setting = record (setting_of 2 2 1 1 0 1000) { reclamation = Epochs }

-- caller 0 has loaded the total for its `add 5`, and caller 1 makes a whole `add 3`
abbrev pub disturbed : List CoreEvent
disturbed = calls 0 (call_of 0 5) 3 ++ calls 1 (call_of 0 3) 5

-- the exchange fails, and the wrap-up begins the operation again: its old announcement stands until the new one is stored
abbrev pub adds_again : List Line
adds_again = story ((exchanges (Cell 0) 0 5 3 ∷ []) ∷ enters_again 0 1 ∷ (reads (Cell 0) 3 ∷ exchanges (Cell 0) 3 8 3 ∷ leaves 0 ∷ []) ∷ [])

pub record AgainRows : Type 0 where
  pub begun : lines_after counter_code counter_setting [] (calls 0 (call_of 0 5) 3) ≡ enters 0 1 (call_of 0 5) ++ (reads (Cell 0) 0 ∷ [])
  pub other : lines_after counter_code counter_setting (calls 0 (call_of 0 5) 3) (calls 1 (call_of 0 3) 5) ≡ enters 1 1 (call_of 0 3) ++ (reads (Cell 0) 0 ∷ exchanges (Cell 0) 0 3 0 ∷ leaves 1 ∷ [])
  pub again : lines_after counter_code counter_setting disturbed (steps 0 6) ≡ adds_again
  pub stands : word_after counter_code counter_setting (disturbed ++ steps 0 2) (Warning 0) ≡ Some 1
  pub left : left_after counter_code counter_setting (disturbed ++ steps 0 6) 0 ≡ Some (record { replies = replies.Number 8 ∷ []; cradles = no_slots; restarts = 0; claims = 0 })
  pub other_left : left_after counter_code counter_setting (disturbed ++ steps 0 6) 1 ≡ Some (record { replies = replies.Number 3 ∷ []; cradles = no_slots; restarts = 0; claims = 0 })
