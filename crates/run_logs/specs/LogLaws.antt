-- What is written down of a step is what the simulation says of it.
use Rattle.std.specs.Prelude.{◌≡◌, ℕ, false, Some, slice_get}
use Rattle.norm_lang.specs.declared.text.Text.{Text}
use Rattle.target_code.specs.declared.target.Target.{Target}
use Rattle.caller_parts.specs.Settings.{Setting}
use Rattle.caller_steps.specs.Entries.{Entry, is_idle}
use Rattle.caller_steps.specs.After.{signs}
use Rattle.core_runs.specs.Machine.{CoreState, Steps}
use Rattle.core_runs.specs.RunSigns.{signed, event_signs}
use Rattle.oa_simulation.specs.Shadow.{Shadow, shadow_run}
use Rattle.core_entries.specs.StepSigns.{step_signs, signs_told}
use Rattle.run_logs.specs.Logged.{Recording, logged_all}

-- a shadow without the slots of its names
abbrev pub recording : Shadow → Recording
recording z = record { machine = z.machine; unused = z.unused; events = z.events }

-- of a step of each caller that runs, whatever word it finds
abbrev pub LogsAreShadows : Type 0
LogsAreShadows = (target : Target) (text : Text) (setting : Setting) (c : ℕ) (e : Entry) (word : ℕ) (z : Shadow) → is_idle e.routine ≡ false
    → logged_all text c e.running.call (step_signs target setting e word) (recording z) ≡ recording (shadow_run text (signed c (signs target setting e word)) z)

-- what is written down of a step in a state of the core is what the simulation says of that event
abbrev pub StepsAreShadows : Type 0
StepsAreShadows = (target : Target) (text : Text) (setting : Setting) (state : CoreState) (c : ℕ) (e : Entry) (z : Shadow) → slice_get state.entries c ≡ Some e → is_idle e.routine ≡ false
    → logged_all text c e.running.call (signs_told target setting state.words e) (recording z) ≡ recording (shadow_run text (event_signs target setting state (Steps c)) z)
