-- What is asked of each state from which one event after another goes on.
use Rattle.std.specs.Prelude.{Bool, true, ◌&&◌, List, [], ◌∷◌, Option, Some, None}
use Rattle.target_code.specs.declared.target.Target.{Target}
use Rattle.caller_parts.specs.Settings.{Setting}
use Rattle.core_runs.specs.Machine.{CoreState, CoreEvent, core_event}

abbrev pub on_state : Option CoreState → (CoreState → Bool) → Bool
on_state None next = true
on_state (Some state) next = next state

-- a test of each event of a run and of the state before it
abbrev pub throughout : Target → Setting → (CoreState → CoreEvent → Bool) → List CoreEvent → CoreState → Bool
throughout target setting test [] state = true
throughout target setting test (event ∷ events) state = test state event && on_state (core_event target setting state event) (throughout target setting test events)
