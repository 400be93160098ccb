-- The calls that a run under epochs begins in the source.
use Rattle.std.specs.Prelude.{◌≡◌, ℕ, ◌+◌, Bool, true, false, List, [], ◌∷◌, ◌++◌, map, length, take, Some, nat_lt, if◌then◌else◌, slice_get}
use Rattle.norm_lang.specs.declared.text.Text.{Text}
use Rattle.target_code.specs.declared.target.Target.{Target}
use Rattle.caller_parts.specs.declared.call.Call.{Call}
use Rattle.caller_parts.specs.declared.call.Running.{Running}
use Rattle.caller_parts.specs.declared.setting.Reclamation.TheVariants.{Epochs}
use Rattle.caller_parts.specs.Settings.{Setting}
use Rattle.caller_steps.specs.Entries.{Entry, is_idle}
use Rattle.core_runs.specs.Machine.{CoreState, CoreEvent, core_run, core_start}
use Rattle.core_runs.specs.Scripts.{IsCompleteRun, script_of}
use Rattle.oa_simulation.specs.Shadow.{image}
use Rattle.run_laws.specs.begin_laws.Begins.{begun_in, call_replied}

-- ---- an entry's calls

-- a call begins with its second access, the store of its announcement
abbrev pub begun_with : ℕ → List Call → List Call
begun_with steps calls = if nat_lt 1 steps then calls else []

abbrev pub started_of : Bool → Running → List Call
started_of true running = []
started_of false running = begun_with running.steps (running.call ∷ [])

-- the calls that have begun: those that got a reply, and the one that runs if it has
abbrev pub started : Entry → List Call
started e = map call_replied e.replies ++ started_of (is_idle e.routine) e.running

-- in the image of a run under epochs each caller begins these
pub record CallsBegin (target : Target) (setting : Setting) : Type 0 where
  pub each : setting.reclamation ≡ Epochs → (text : Text) (events : List CoreEvent) (state : CoreState) (c : ℕ) (e : Entry) → core_run target setting events (core_start target setting) ≡ Some state
      → slice_get state.entries c ≡ Some e → begun_in c (image target text setting events) ≡ started e

-- ---- complete runs

-- whether a spent call has begun
abbrev pub begun_by_fuel : ℕ → ℕ
begun_by_fuel fuel = if nat_lt 1 fuel then 1 else 0

-- an idle caller has begun its whole script; one with a spent call has begun the calls that got a reply, and that one if its fuel lets it
abbrev pub BeginsScript : Bool → List Call → ℕ → Entry → List Call → Type 0
BeginsScript true script fuel e begun = begun ≡ script
BeginsScript false script fuel e begun = begun ≡ take (length e.replies + begun_by_fuel fuel) script

-- each caller begins the calls of its script, in order
abbrev pub EpochBeginsOfScripts : Target → Text → Setting → List (List Call) → ℕ → List CoreEvent → CoreState → Type 0
EpochBeginsOfScripts target text setting scripts fuel events state = (c : ℕ) (e : Entry) → slice_get state.entries c ≡ Some e
    → BeginsScript (is_idle e.routine) (script_of scripts c) fuel e (begun_in c (image target text setting events))

-- in the image of a complete run under epochs
pub record ScriptsBegin (target : Target) (setting : Setting) : Type 0 where
  pub each : setting.reclamation ≡ Epochs → (text : Text) (scripts : List (List Call)) (fuel : ℕ) (events : List CoreEvent) (state : CoreState)
      → IsCompleteRun target setting scripts fuel events state → EpochBeginsOfScripts target text setting scripts fuel events state
