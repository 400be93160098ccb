-- Runs of scripts on the list by two callers: which of them are complete, and which aren't.
--
-- `insert 5` of caller 0 takes 22 steps on the empty list, and has its reply after them; after the first seven it runs still.
use Rattle.std.specs.Prelude.{◌≡◌, ℕ, List, [], ◌∷◌, ◌++◌}
use Rattle.caller_parts.specs.declared.call.Call.{Call}
use Rattle.core_runs.specs.Machine.{CoreEvent}
use Rattle.core_runs.specs.Histories.{calls_in}
use Rattle.core_runs.specs.Scripts.{IsCompleteRun}
use Rattle.core_rows.specs.Short.{call_of}
use Rattle.core_rows.specs.ShippedTargets.{list_target}
use Rattle.core_rows.specs.SharedRows.{shared_setting, five_in}
use Rattle.core_rows.specs.Stories.{calls}
use Rattle.run_rows.specs.ListTops.{state_after}

-- `insert 5`, `remove 5` and `contains 5`
abbrev pub insert_five : Call
insert_five = call_of 0 5

abbrev pub remove_five : Call
remove_five = call_of 1 5

abbrev pub look_for_five : Call
look_for_five = call_of 2 5

abbrev pub halfway : List CoreEvent
halfway = calls 0 insert_five 7

abbrev pub IsComplete : List Call → List Call → ℕ → List CoreEvent → Type 0
IsComplete first second fuel events = IsCompleteRun list_target (shared_setting 2) (first ∷ second ∷ []) fuel events (state_after 2 events)

pub record ScriptRuns : Type 0 where
  -- the calls that a caller took, in order, each with its steps
  pub taken : calls_in 0 five_in ≡ record { call = insert_five; steps = 22 } ∷ []
  pub none_taken : calls_in 1 five_in ≡ []
  pub two_taken : calls_in 0 (five_in ++ calls 1 look_for_five 2 ++ calls 0 remove_five 3) ≡ record { call = insert_five; steps = 22 } ∷ record { call = remove_five; steps = 3 } ∷ []
  pub other_taken : calls_in 1 (five_in ++ calls 1 look_for_five 2 ++ calls 0 remove_five 3) ≡ record { call = look_for_five; steps = 2 } ∷ []
  -- each caller has ended its script
  pub whole : IsComplete (insert_five ∷ []) [] 22 five_in
  -- a call was given all the steps that it may make, and its caller takes no further one
  pub spent : IsComplete (insert_five ∷ remove_five ∷ []) [] 7 halfway
  -- an idle caller has stopped in the middle of its script
  pub stopped : ¬ IsComplete (insert_five ∷ remove_five ∷ []) [] 22 five_in
  -- another hasn't begun its own
  pub not_begun : ¬ IsComplete (insert_five ∷ []) (look_for_five ∷ []) 22 five_in
  -- a call runs still that may make more steps
  pub not_spent : ¬ IsComplete (insert_five ∷ []) [] 8 halfway
  -- a call was given more steps than it may make
  pub past_fuel : ¬ IsComplete (insert_five ∷ []) [] 21 five_in
  -- another call was taken than the script has next
  pub other_call : ¬ IsComplete (remove_five ∷ []) [] 22 five_in
  -- more calls were taken than the script has
  pub past_script : ¬ IsComplete [] [] 22 five_in
