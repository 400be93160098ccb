-- The calls that a caller took in a run, and the steps that it made for each.
use Rattle.std.specs.Prelude.{◌≡◌, ℕ, Bool, true, false, List, [], ◌∷◌, ◌++◌, map, Some, slice_get, ◌==◌, if◌then◌else◌}
use Rattle.target_code.specs.declared.target.Target.{Target}
use Rattle.caller_parts.specs.declared.call.Running.{Running}
use Rattle.caller_parts.specs.Pairing.{run_of}
use Rattle.caller_parts.specs.Settings.{Setting}
use Rattle.caller_steps.specs.Entries.{Entry, one_more, is_idle}
use Rattle.core_runs.specs.Machine.{CoreState, CoreEvent, Takes, Steps, core_run, core_start}

-- one more step for the last call
abbrev pub bumped : List Running → List Running
bumped [] = []
bumped (x ∷ []) = record x { steps = one_more x.steps } ∷ []
bumped (x ∷ y ∷ rest) = x ∷ bumped (y ∷ rest)

-- what an event makes of the calls of the caller c
abbrev pub with_event : ℕ → CoreEvent → List Running → List Running
with_event c (Takes k call) calls = if k == c then calls ++ record { call = call; steps = 0 } ∷ [] else calls
with_event c (Steps k) calls = if k == c then bumped calls else calls

-- the calls that the caller c took in events, in order, each with the steps made for it
abbrev pub with_events : ℕ → List CoreEvent → List Running → List Running
with_events c [] calls = calls
with_events c (event ∷ events) calls = with_events c events (with_event c event calls)

abbrev pub calls_in : ℕ → List CoreEvent → List Running
calls_in c events = with_events c events []

-- the calls that an entry keeps: those that got a reply, and the one that runs
abbrev pub running_of : Bool → Entry → List Running
running_of true e = []
running_of false e = e.running ∷ []

abbrev pub calls_of : Entry → List Running
calls_of e = map run_of e.replies ++ running_of (is_idle e.routine) e

-- in a run each entry keeps the calls that its caller took, in order, each with the steps made for it
pub record KeepsCalls (target : Target) (setting : Setting) : Type 0 where
  pub each : (events : List CoreEvent) (state : CoreState) (c : ℕ) (e : Entry) → core_run target setting events (core_start target setting) ≡ Some state
      → slice_get state.entries c ≡ Some e → calls_of e ≡ calls_in c events
