-- The calls that a run of the core begins in the source.
use Rattle.std.specs.Prelude.{◌≡◌, ℕ, ◌+◌, ◌≤◌, Bool, true, false, List, [], ◌∷◌, ◌++◌, map, length, take, Some, ◌==◌, if◌then◌else◌, slice_get}
use Rattle.norm_lang.specs.declared.text.Text.{Text}
use Rattle.target_code.specs.declared.target.Target.{Target}
use Rattle.source_machine.specs.declared.event.SourceEvent.{SourceEvent}
use Rattle.source_machine.specs.declared.event.SourceEvent.TheVariants as events
use Rattle.caller_parts.specs.declared.call.Call.{Call}
use Rattle.caller_parts.specs.declared.call.Replied.{Replied}
use Rattle.caller_parts.specs.declared.call.Running.{Running}
use Rattle.caller_parts.specs.Settings.{Setting}
use Rattle.caller_steps.specs.Entries.{Entry, is_idle}
use Rattle.core_runs.specs.Machine.{CoreState, CoreEvent, core_run, core_start}
use Rattle.core_runs.specs.Scripts.{IsCompleteRun, script_of}
use Rattle.oa_simulation.specs.Shadow.{image}
use Rattle.caller_parts.specs.declared.setting.Reclamation.TheVariants.{Optimistic}

-- the calls that events begin for a caller, in order
abbrev pub begun_by : ℕ → SourceEvent → List Call
begun_by c (events.Begin d op args) = if d == c then record { op = op; args = args } ∷ [] else []
begun_by c _ = []

abbrev pub begun_in : ℕ → List SourceEvent → List Call
begun_in c [] = []
begun_in c (event ∷ events) = begun_by c event ++ begun_in c events

-- ---- an entry's calls

abbrev pub call_replied : Replied → Call
call_replied replied = replied.call

-- the call that runs, if a step was made for it
abbrev pub started_of : Bool → Running → List Call
started_of true running = []
started_of false running = if running.steps == 0 then [] else running.call ∷ []

-- the calls for which steps were made: those that got a reply, and then that one
abbrev pub started : Entry → List Call
started e = map call_replied e.replies ++ started_of (is_idle e.routine) e.running

-- in the image of a run of optimistic access each caller begins these: its first step for a call begins it
pub record CallsBegin (target : Target) (setting : Setting) : Type 0 where
  pub each : setting.reclamation ≡ Optimistic → (text : Text) (events : List CoreEvent) (state : CoreState) (c : ℕ) (e : Entry) → core_run target setting events (core_start target setting) ≡ Some state
      → slice_get state.entries c ≡ Some e → begun_in c (image target text setting events) ≡ started e

-- ---- complete runs

-- an idle caller has begun its whole script; one with a spent call has begun the calls that got a reply, and that one
abbrev pub BeginsScript : Bool → List Call → Entry → List Call → Type 0
BeginsScript true script e begun = begun ≡ script
BeginsScript false script e begun = begun ≡ take (length e.replies + 1) script

-- each caller begins the calls of its script, in order
abbrev pub BeginsOfScripts : Target → Text → Setting → List (List Call) → List CoreEvent → CoreState → Type 0
BeginsOfScripts target text setting scripts events state = (c : ℕ) (e : Entry) → slice_get state.entries c ≡ Some e
    → BeginsScript (is_idle e.routine) (script_of scripts c) e (begun_in c (image target text setting events))

-- in the image of a complete run of optimistic access, with fuel for a step at least
pub record ScriptsBegin (target : Target) (setting : Setting) : Type 0 where
  pub each : setting.reclamation ≡ Optimistic → (text : Text) (scripts : List (List Call)) (fuel : ℕ) (events : List CoreEvent) (state : CoreState) → 1 ≤ fuel
      → IsCompleteRun target setting scripts fuel events state → BeginsOfScripts target text setting scripts events state
