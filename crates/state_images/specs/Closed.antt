-- States that are closed under the events of scripts, up to names.
use Rattle.std.specs.Prelude.{◌≡◌, ◌≢◌, ℕ, ◌<◌, length, true, false, List, replicate, Some, None, slice_get}
use Rattle.norm_lang.specs.declared.text.Text.{Text}
use Rattle.source_machine.specs.declared.event.SourceEvent.{SourceEvent}
use Rattle.source_machine.specs.declared.state.SourceMachine.{SourceMachine}
use Rattle.source_machine.specs.Memory.{fields_named}
use Rattle.source_machine.specs.Run.{is_enabled, IsSourceRun}
use Rattle.source_machine.specs.MethodRuns.{Watched, watched_start, watched_step, method_runs}
use Rattle.source_machine.specs.Proper.{IsProperState}
use Rattle.documents.specs.declared.document.ScriptCall.{ScriptCall}
use Rattle.event_judge.specs.Calls.{begins_other, begun_with}
use Rattle.event_judge.specs.JudgingLaws.{BeginInOrder}
use Rattle.state_images.specs.Images.{Naming, IsImage, with_name_of}

-- every state of every run in which each caller begins calls of its script, in order, is proper
abbrev pub AreProperScripts : Text → List (List ScriptCall) → Type 0
AreProperScripts text scripts =
    (events : List SourceEvent) (state : SourceMachine) → IsSourceRun text (length scripts) events state → BeginInOrder text.ops scripts events
    → IsProperState state (method_runs text (length scripts) events)

-- a state with its method runs, and how many calls each caller has begun
pub record Told : Type 0 where
  pub watched : Watched
  pub begun : List ℕ

abbrev pub told_start : Text → List (List ScriptCall) → Told
told_start text scripts = record { watched = watched_start text (length scripts); begun = replicate (length scripts) 0 }

abbrev pub told_step : Text → Told → SourceEvent → Told
told_step text told event = record { watched = watched_step text told.watched event; begun = begun_with told.begun event }

-- one of those that are found stands for it
pub record IsAmong (found : List Told) (told : Told) : Type 0 where
  pub place : ℕ
  pub one : Told
  pub stands : slice_get found place ≡ Some one
  pub naming : Naming
  pub image : IsImage naming told.watched one.watched
  pub begun : one.begun ≡ told.begun

-- every event that is tried in a state leads to one for which one of the found stands; the name is one that the state doesn't use
pub record IsGoneOn (text : Text) (scripts : List (List ScriptCall)) (found : List Told) (one : Told) : Type 0 where
  pub name : ℕ
  pub some : name ≢ 0
  pub unused : fields_named name one.watched.machine.memory.nodes ≡ None
  pub leads : (event : SourceEvent) → is_enabled text one.watched.machine (with_name_of event name) ≡ true
      → begins_other text.ops scripts one.begun (with_name_of event name) ≡ false → IsAmong found (told_step text one (with_name_of event name))

abbrev pub AreProperStates : List Told → Type 0
AreProperStates found = (place : ℕ) (one : Told) → slice_get found place ≡ Some one → IsProperState one.watched.machine one.watched.runs

-- the first so many of the found are gone on from
abbrev pub AreGoneOn : Text → List (List ScriptCall) → List Told → ℕ → Type 0
AreGoneOn text scripts found done = (place : ℕ) (one : Told) → place < done → slice_get found place ≡ Some one → IsGoneOn text scripts found one

-- what is found holds the start, is closed under the events that are tried, and is proper
pub record IsClosed (text : Text) (scripts : List (List ScriptCall)) (found : List Told) : Type 0 where
  pub starts : IsAmong found (told_start text scripts)
  pub goes_on : AreGoneOn text scripts found (length found)
  pub proper : AreProperStates found

abbrev pub ClosedIsProper : Type 0
ClosedIsProper = (text : Text) (scripts : List (List ScriptCall)) (found : List Told) → IsClosed text scripts found → AreProperScripts text scripts
