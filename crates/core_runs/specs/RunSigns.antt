-- The signs of a run, which tell the source machine what happened.
use Rattle.std.specs.Prelude.{ℕ, List, [], ◌∷◌, ◌++◌, map, Option, Some, None, slice_get}
use Rattle.target_code.specs.declared.target.Target.{Target}
use Rattle.phase_pools.specs.Accesses.{WordAccess}
use Rattle.caller_parts.specs.Settings.{Setting}
use Rattle.caller_steps.specs.Entries.{Entry}
use Rattle.caller_steps.specs.Wants.{wants}
use Rattle.caller_steps.specs.Signs.{Sign}
use Rattle.caller_steps.specs.After.{signs}
use Rattle.core_runs.specs.Machine.{CoreState, CoreEvent, Takes, Steps, core_event, found_by}

-- a sign of a caller
pub record Signed : Type 0 where
  pub caller : ℕ
  pub sign : Sign

abbrev pub signed : ℕ → List Sign → List Signed
signed c signs = map (λ (sign : Sign). record { caller = c; sign = sign }) signs

-- of a caller's step in a state
abbrev pub wanted_signs : Target → Setting → CoreState → Entry → Option WordAccess → List Sign
wanted_signs target setting state e None = []
wanted_signs target setting state e (Some a) = signs target setting e (found_by setting state a)

abbrev pub entry_signs : Target → Setting → CoreState → Option Entry → List Sign
entry_signs target setting state None = []
entry_signs target setting state (Some e) = wanted_signs target setting state e (wants target e)

-- of an event; taking a call gives none
abbrev pub event_signs : Target → Setting → CoreState → CoreEvent → List Signed
event_signs target setting state (Takes c call) = []
event_signs target setting state (Steps c) = signed c (entry_signs target setting state (slice_get state.entries c))

abbrev pub signs_on : Option CoreState → (CoreState → List Signed) → List Signed
signs_on None next = []
signs_on (Some state) next = next state

-- of events one after another; there are none past an event that isn't enabled
abbrev pub run_signs : Target → Setting → List CoreEvent → CoreState → List Signed
run_signs target setting [] state = []
run_signs target setting (event ∷ events) state =
    event_signs target setting state event ++ signs_on (core_event target setting state event) (run_signs target setting events)
