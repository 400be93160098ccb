-- The steps that a caller made for each call that it took in a run.
use Rattle.std.specs.Prelude.{◌≡◌, ℕ, ◌-◌, ◌^◌, min, List, [], ◌∷◌, ◌++◌, length, map, Option, Some, None, ◌==◌, if◌then◌else◌, slice_get, slice_index_or}
use Rattle.target_code.specs.declared.target.Target.{Target}
use Rattle.phase_pools.specs.Accesses.{WordAccess}
use Rattle.caller_parts.specs.declared.call.Running.{Running}
use Rattle.caller_parts.specs.Settings.{Setting}
use Rattle.caller_steps.specs.Entries.{Entry}
use Rattle.caller_steps.specs.Wants.{wants}
use Rattle.core_runs.specs.Machine.{CoreState, CoreEvent, Takes, Steps, core_event, core_run, core_start, found_by}
use Rattle.core_runs.specs.Histories.{calls_in}

-- a step: the entry before it, and the word that its access found
pub record StepMade : Type 0 where
  pub entry : Entry
  pub found : ℕ

-- that of an entry in a state
abbrev pub steps_wanted : Setting → CoreState → Entry → Option WordAccess → List StepMade
steps_wanted setting state e None = []
steps_wanted setting state e (Some a) = record { entry = e; found = found_by setting state a } ∷ []

abbrev pub steps_by : Target → Setting → CoreState → Option Entry → List StepMade
steps_by target setting state None = []
steps_by target setting state (Some e) = steps_wanted setting state e (wants target e)

-- more steps for the last call
abbrev pub with_steps : List (List StepMade) → List StepMade → List (List StepMade)
with_steps [] steps = []
with_steps (x ∷ []) steps = (x ++ steps) ∷ []
with_steps (x ∷ y ∷ rest) steps = x ∷ with_steps (y ∷ rest) steps

-- what an event in a state adds to the calls of the caller c: a call without a step, or a step of its last call
abbrev pub event_steps : Target → Setting → ℕ → CoreState → CoreEvent → List (List StepMade) → List (List StepMade)
event_steps target setting c state (Takes k call) calls = if k == c then calls ++ [] ∷ [] else calls
event_steps target setting c state (Steps k) calls = if k == c then with_steps calls (steps_by target setting state (slice_get state.entries k)) else calls

abbrev pub steps_on : Option CoreState → List (List StepMade) → (CoreState → List (List StepMade)) → List (List StepMade)
steps_on None calls next = calls
steps_on (Some state) calls next = next state

-- and events one after another; there are no steps past an event that isn't enabled
abbrev pub events_steps : Target → Setting → ℕ → List CoreEvent → CoreState → List (List StepMade) → List (List StepMade)
events_steps target setting c [] state calls = calls
events_steps target setting c (event ∷ events) state calls =
    let more = event_steps target setting c state event calls in
    steps_on (core_event target setting state event) more (λ next. events_steps target setting c events next more)

-- for each call that the caller c took in a run from the start, its steps in order
abbrev pub call_steps : Target → Setting → List CoreEvent → ℕ → List (List StepMade)
call_steps target setting events c = events_steps target setting c events (core_start target setting) []

-- those of its call number i, from 0
abbrev pub steps_of_call : Target → Setting → List CoreEvent → ℕ → ℕ → List StepMade
steps_of_call target setting events c i = slice_index_or (call_steps target setting events c) i []

-- ---- laws

-- so many steps, as far as counts go
abbrev pub count_of : List StepMade → ℕ
count_of steps = min (length steps) (2 ^ 64 - 1)

-- the calls are those that the caller took, each with as many steps as are counted for it
pub record StepsAreCounted (target : Target) (setting : Setting) : Type 0 where
  pub each : (events : List CoreEvent) (state : CoreState) (c : ℕ) → core_run target setting events (core_start target setting) ≡ Some state
      → map count_of (call_steps target setting events c) ≡ map (λ (run : Running). run.steps) (calls_in c events)
