-- A core run read with names: the source machine beside it, and the slots of the names that it draws.
--
-- It is a fold of the run's signs. Each `new` draws the least name above all used ones, initial nodes being named from 1 on; no name
-- is read, in the core's words or registers or anywhere else.
use Rattle.std.specs.Prelude.{ℕ, ◌+◌, Bool, true, false, List, [], ◌∷◌, ◌++◌}
use Rattle.norm_lang.specs.declared.text.Text.{Text}
use Rattle.target_code.specs.declared.target.Target.{Target}
use Rattle.source_machine.specs.declared.event.SourceEvent.{SourceEvent}
use Rattle.source_machine.specs.declared.state.SourceMachine.{SourceMachine}
use Rattle.source_machine.specs.State.{source_start}
use Rattle.source_machine.specs.Run.{is_enabled, source_step}
use Rattle.source_machine.specs.MethodRuns.{put}
use Rattle.oa_words.specs.SlotKinds.{together}
use Rattle.caller_parts.specs.Settings.{Setting}
use Rattle.caller_steps.specs.Signs.{Sign, Draws, Renews}
use Rattle.core_runs.specs.Machine.{CoreEvent, core_start}
use Rattle.core_runs.specs.RunSigns.{Signed, run_signs}
use Rattle.oa_simulation.specs.sim_relation.Points.{event_of, unused_after}
use Rattle.oa_simulation.specs.FirstNames.{first_home}

-- the source's machine, the least name above all used ones, the names' slots, and the source's events so far
pub record Shadow : Type 0 where
  pub machine : SourceMachine
  pub unused : ℕ
  pub home : ℕ → ℕ
  pub events : List SourceEvent

-- a restart that isn't enabled is left out of the events, and nothing else is
abbrev pub is_told : Sign → Bool → Bool
is_told Renews enabled = enabled
is_told _ enabled = true

abbrev pub home_after : Sign → ℕ → (ℕ → ℕ) → ℕ → ℕ
home_after (Draws j) unused home = put home unused j
home_after _ unused home = home

-- an event that isn't enabled leaves the machine as it was
abbrev pub machine_if : Bool → Text → SourceMachine → SourceEvent → SourceMachine
machine_if false text machine event = machine
machine_if true text machine event = source_step text machine event

abbrev pub events_if : Bool → List SourceEvent → SourceEvent → List SourceEvent
events_if false events event = events
events_if true events event = events ++ event ∷ []

-- one sign of a caller
abbrev pub shadow_step : Text → Shadow → Signed → Shadow
shadow_step text z x =
    let event = event_of x.caller z.unused x.sign in
    let enabled = is_enabled text z.machine event in
    record {
      machine = machine_if enabled text z.machine event;
      unused = unused_after x.sign z.unused;
      home = home_after x.sign z.unused z.home;
      events = events_if (is_told x.sign enabled) z.events event;
    }

abbrev pub shadow_run : Text → List Signed → Shadow → Shadow
shadow_run text [] z = z
shadow_run text (x ∷ xs) z = shadow_run text xs (shadow_step text z x)

abbrev pub shadow_start : Text → Setting → Shadow
shadow_start text setting = record {
  machine = source_start text setting.sizes.callers;
  unused = together setting.nodes + 1;
  home = first_home setting;
  events = [];
}

-- the shadow of a core run from the start
abbrev pub shadow : Target → Text → Setting → List CoreEvent → Shadow
shadow target text setting events = shadow_run text (run_signs target setting events (core_start target setting)) (shadow_start text setting)

-- its image: the events that its steps give to the source, in their order
abbrev pub image : Target → Text → Setting → List CoreEvent → List SourceEvent
image target text setting events = (shadow target text setting events).events

-- the slots of a run's names
abbrev pub home_of : Target → Text → Setting → List CoreEvent → ℕ → ℕ
home_of target text setting events = (shadow target text setting events).home
