-- Which events are enabled: a call is taken by an idle caller, is of an operation that is there, and has 0 past its arguments; and a
-- caller that runs makes a step.
use Rattle.std.specs.Prelude.{◌≡◌, ℕ, Bool, true, false, List, [], ◌∷◌, ◌++◌, is_some}
use Rattle.caller_parts.specs.declared.call.Call.{Call}
use Rattle.caller_parts.specs.Settings.{Setting}
use Rattle.core_runs.specs.Machine.{CoreEvent, Takes, Steps, core_run, core_start}
use Rattle.core_rows.specs.Short.{setting_of}
use Rattle.core_rows.specs.SmallTargets.{counter_target}
use Rattle.core_rows.specs.Stories.{calls}

-- two callers of the counter
abbrev pub pair_of_callers : Setting
pair_of_callers = setting_of 2 2 1 1 0 1000

-- whether each of the events is enabled after those before it
abbrev pub are_enabled : List CoreEvent → Bool
are_enabled events = is_some (core_run counter_target pair_of_callers events (core_start counter_target pair_of_callers))

-- a call with four words
abbrev pub call_with : ℕ → ℕ → ℕ → ℕ → ℕ → Call
call_with op first second third fourth = record { op = op; args = first ∷ second ∷ third ∷ fourth ∷ [] }

-- `add 5`, of five steps, and `nop`, of two
abbrev pub adds : Call
adds = call_with 0 5 0 0 0

abbrev pub does_nothing : Call
does_nothing = call_with 1 0 0 0 0

pub record EventRows : Type 0 where
  pub taken : are_enabled (Takes 0 adds ∷ []) ≡ true
  pub both : are_enabled (Takes 0 adds ∷ Takes 1 does_nothing ∷ []) ≡ true
  pub one_after_another : are_enabled (calls 0 adds 5 ++ calls 0 does_nothing 2) ≡ true
  -- by a caller whose call runs: before its first step, and before its last
  pub busy : are_enabled (Takes 0 adds ∷ Takes 0 does_nothing ∷ []) ≡ false
  pub busy_later : are_enabled (calls 0 adds 4 ++ Takes 0 does_nothing ∷ []) ≡ false
  -- of the operation after the last
  pub no_operation : are_enabled (Takes 0 (call_with 2 0 0 0 0) ∷ []) ≡ false
  -- with a word past its arguments, next to them or last
  pub second_word : are_enabled (Takes 0 (call_with 0 5 1 0 0) ∷ []) ≡ false
  pub last_word : are_enabled (Takes 0 (call_with 0 5 0 0 9) ∷ []) ≡ false
  pub first_word : are_enabled (Takes 0 (call_with 1 5 0 0 0) ∷ []) ≡ false
  -- by a caller that isn't there
  pub no_caller : are_enabled (Takes 2 adds ∷ []) ≡ false
  -- a step of a caller that has taken no call, of one whose call has ended, and of one that isn't there
  pub idle : are_enabled (Steps 0 ∷ []) ≡ false
  pub other_idle : are_enabled (calls 0 adds 3 ++ Steps 1 ∷ []) ≡ false
  pub ended : are_enabled (calls 0 adds 6) ≡ false
  pub nobody : are_enabled (Steps 2 ∷ []) ≡ false
