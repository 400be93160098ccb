-- What holds in each state on the way of a run.
use Rattle.std.specs.Prelude.{◌≡◌, Bool, true, List, ◌++◌, Some}
use Rattle.target_code.specs.declared.target.Target.{Target}
use Rattle.caller_parts.specs.Settings.{Setting}
use Rattle.core_runs.specs.Machine.{CoreState, CoreEvent, core_run, core_start}

-- what holds after each first part of a run's events, in the state that it leads to
abbrev pub AtEachState : Target → Setting → List CoreEvent → (List CoreEvent → CoreState → Type 0) → Type 0
AtEachState target setting events Holds = (before later : List CoreEvent) (there : CoreState) → before ++ later ≡ events
    → core_run target setting before (core_start target setting) ≡ Some there → Holds before there

-- ---- a law

-- the events and the state that they lead to pass a test
abbrev pub Passes : (List CoreEvent → CoreState → Bool) → List CoreEvent → CoreState → Type 0
Passes test events state = test events state ≡ true

-- what is so in each state of a run is so in the last one, and in each of a first part of the run
pub record EachIsOnTheWay (target : Target) (setting : Setting) : Type 0 where
  pub last : (test : List CoreEvent → CoreState → Bool) (events : List CoreEvent) (state : CoreState) → AtEachState target setting events (Passes test)
      → core_run target setting events (core_start target setting) ≡ Some state → Passes test events state
  pub earlier : (test : List CoreEvent → CoreState → Bool) (first rest : List CoreEvent) → AtEachState target setting (first ++ rest) (Passes test)
      → AtEachState target setting first (Passes test)
