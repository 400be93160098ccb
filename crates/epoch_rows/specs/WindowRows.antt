-- The window between a caller's load of the phase and its store: another caller raises the phase there, reads that nothing is announced,
-- and recycles a slot that was retired in the phase that is stored then. The caller can't reach that slot any more, and from its store on it
-- holds back what is retired, by the smaller phase.
use Rattle.std.specs.Prelude.{◌≡◌, List, [], ◌∷◌, ◌++◌, Some}
use Rattle.norm_lang.specs.declared.reply.SourceReply.TheVariants as replies
use Rattle.oa_words.specs.Words.{Phase, Warning, Status, FieldOf, Cell}
use Rattle.caller_parts.specs.Settings.{Setting}
use Rattle.caller_steps.specs.Signs.{Begins}
use Rattle.core_runs.specs.Machine.{CoreEvent}
use Rattle.core_rows.specs.Short.{call_of, no_slots}
use Rattle.core_rows.specs.Stories.{Line, Load, Store, gives, silent, story, lines_after, left_after, steps, calls, reads, exchanges, looks, takes, retires, raises, finds, frees, pushes}
use Rattle.epoch_rows.specs.EpochStories.{list_code, list_setting, enters, enters_again, withdraws, leaves, heeds, reads_last, gives_up, word_after}
use Rattle.epoch_rows.specs.LoneRows.{one, linked}

abbrev pub window_setting : Setting
window_setting = list_setting 2 3 1000000000

-- 5 was in slot 2, which is retired in phase 1, and 6 is in slot 3
abbrev pub six_there : List CoreEvent
six_there = calls 0 (call_of 0 5) 14 ++ (calls 0 (call_of 1 5) 11 ++ calls 0 (call_of 0 6) 14)

-- `contains 6` of caller 1 loads phase 1
abbrev pub loaded : List CoreEvent
loaded = six_there ++ calls 1 (call_of 2 6) 1

abbrev pub six_searched : List Line
six_searched = reads (Cell 0) 2 ∷ reads (FieldOf 1 1) 6 ∷ reads (FieldOf 3 1) 0 ∷ reads (FieldOf 3 0) 6 ∷ []

-- `insert 8` of caller 0 raises the phase to 2, finds nothing announced, and takes slot 2
abbrev pub recycles : List Line
recycles = story (
    enters 0 1 (call_of 0 8)
    ∷ six_searched
    ∷ (looks 8192 ∷ withdraws 0 ∷ [])
    ∷ raises 1 2
    ∷ (heeds 0 0 ∷ heeds 1 0 ∷ finds 3 5 ∷ finds 2 6 ∷ frees 2 6 8 ∷ [])
    ∷ pushes 2 8192 0 16386
    ∷ (finds 1 5 ∷ [])
    ∷ takes 2 16386 0 16384 9
    ∷ [])

abbrev pub recycled : List CoreEvent
recycled = loaded ++ calls 0 (call_of 0 8) 23

-- the store comes too late for the sweep: phase 1 is announced, in which slot 2 was retired, and the slot is used again. The call begins
-- with the store
abbrev pub late_store : List Line
late_store = gives (Store (Warning 1) 1) (Begins (call_of 2 6) ∷ []) ∷ []

abbrev pub announced : List CoreEvent
announced = recycled ++ steps 1 1

abbrev pub goes_in : List Line
goes_in = story (enters_again 0 2 ∷ six_searched ∷ linked 0 2 4 8 3 0 ∷ [])

abbrev pub eight_there : List CoreEvent
eight_there = announced ++ steps 0 12

-- caller 1 finds 6, and stands before its reply
abbrev pub finds_six : List Line
finds_six = reads (Cell 0) 2 ∷ reads (FieldOf 1 1) 6 ∷ reads (FieldOf 3 1) 4 ∷ reads_last (FieldOf 3 0) 6 ∷ []

abbrev pub found : List CoreEvent
found = eight_there ++ steps 1 4

-- caller 0 removes 8, and slot 2 is retired in phase 2
abbrev pub eight_out : List Line
eight_out = story (
    enters 0 2 (call_of 1 8)
    ∷ (reads (Cell 0) 2 ∷ reads (FieldOf 1 1) 6 ∷ reads (FieldOf 3 1) 4 ∷ reads (FieldOf 3 0) 6 ∷ reads (FieldOf 2 1) 0 ∷ reads (FieldOf 2 0) 8 ∷ [])
    ∷ (exchanges (FieldOf 2 1) 0 1 0 ∷ exchanges (FieldOf 3 1) 4 0 4 ∷ [])
    ∷ retires 2 2 10
    ∷ (leaves 0 ∷ [])
    ∷ [])

abbrev pub retired : List CoreEvent
retired = found ++ calls 0 (call_of 1 8) 13

-- its `insert 9` sweeps twice, and phase 1, which caller 1 has announced, holds the slot back
abbrev pub nine_refused : List Line
nine_refused = story (
    enters 0 2 (call_of 0 9)
    ∷ six_searched
    ∷ (looks 16384 ∷ withdraws 0 ∷ [])
    ∷ raises 2 3
    ∷ (heeds 0 0 ∷ heeds 1 1 ∷ finds 3 5 ∷ finds 2 10 ∷ finds 1 5 ∷ looks 16384 ∷ [])
    ∷ raises 3 4
    ∷ (heeds 0 0 ∷ heeds 1 1 ∷ finds 3 5 ∷ finds 2 10 ∷ finds 1 5 ∷ gives_up 16384 ∷ [])
    ∷ [])

abbrev pub refused : List CoreEvent
refused = retired ++ calls 0 (call_of 0 9) 24

pub record WindowRows : Type 0 where
  pub loads : lines_after list_code window_setting six_there (calls 1 (call_of 2 6) 1) ≡ silent (Load Phase 1) ∷ []
  pub recycles : lines_after list_code window_setting loaded (calls 0 (call_of 0 8) 23) ≡ recycles
  pub stores : lines_after list_code window_setting recycled (steps 1 1) ≡ late_store
  pub words : word_after list_code window_setting announced (Warning 1) ≡ Some 1
  pub phase : word_after list_code window_setting announced Phase ≡ Some 2
  pub used : word_after list_code window_setting announced (Status 2) ≡ Some 9

pub record AfterWindow : Type 0 where
  pub goes_in : lines_after list_code window_setting announced (steps 0 12) ≡ goes_in
  pub finds : lines_after list_code window_setting eight_there (steps 1 4) ≡ finds_six
  pub goes_out : lines_after list_code window_setting found (calls 0 (call_of 1 8) 13) ≡ eight_out
  pub holds_back : lines_after list_code window_setting retired (calls 0 (call_of 0 9) 24) ≡ nine_refused
  pub ends : lines_after list_code window_setting refused (steps 1 1) ≡ leaves 1 ∷ []
  pub left : left_after list_code window_setting (refused ++ steps 1 1) 0
      ≡ Some (record { replies = one ∷ one ∷ one ∷ one ∷ one ∷ replies.Full ∷ []; cradles = no_slots; restarts = 1; claims = 3 })
  pub other_left : left_after list_code window_setting (refused ++ steps 1 1) 1 ≡ Some (record { replies = one ∷ []; cradles = no_slots; restarts = 0; claims = 0 })
