-- What is kept beside a run, and what is told of one event.
use Rattle.std.specs.Prelude.{◌≡◌, ℕ, Bool, true, false, length, Option, None, slice_get}
use Rattle.norm_lang.specs.declared.text.Text.{Text}
use Rattle.source_machine.specs.declared.event.SourceEvent.{SourceEvent}
use Rattle.source_machine.specs.declared.state.SourceMachine.{SourceMachine}
use Rattle.source_machine.specs.Run.{mover, is_enabled, source_step}
use Rattle.source_machine.specs.MethodRuns.{MethodRun, watched_step}
use Rattle.source_machine.specs.Proper.{IsProperState}
use Rattle.proper_judge.specs.declared.breach.Breach.{Breach}
use Rattle.proper_judge.specs.declared.breach.Doubts.{Doubts}
use Rattle.proper_judge.specs.declared.event.Kept.{Kept}
use Rattle.proper_judge.specs.declared.event.Effect.{Effect}
use Rattle.proper_judge.specs.declared.event.Told.{Told}
use Rattle.proper_judge.specs.declared.event.Told.TheVariants.{NotEnabled, Made}
use Rattle.proper_judge.specs.Numbers.{numbering, AreRetirements, is_among, is_second, with_retirement}
use Rattle.proper_judge.specs.Changes.{planned_change, retired_by, IsCalm, needs_roots, needs_runs}
use Rattle.proper_judge.specs.Runs.{HoldsRuns, gain_at, Follows}
use Rattle.proper_judge.specs.Breaches.{IsTold, Shown}

-- what is kept is of the state and its method runs
pub record Keeps (state : SourceMachine) (kept : Kept) (runs : ℕ → MethodRun) : Type 0 where
  pub retirements : AreRetirements (numbering kept.retirements) state.memory.retired
  pub holds : HoldsRuns state.memory.retired kept.runs.items runs
  pub many : length kept.runs.items ≡ length state.callers

-- what an event is to do in a state
pub record IsEffect (text : Text) (event : SourceEvent) (state : SourceMachine) (numbers : ℕ → ℕ) (effect : Effect) : Type 0 where
  pub change : effect.change ≡ planned_change text event state.memory (slice_get state.callers (mover event))
  pub calm : IsCalm effect.calm state.memory effect.change (is_among numbers (length state.memory.retired))
  pub gain : effect.gain ≡ gain_at text event state.memory (slice_get state.callers (mover event))

-- whether an event was made, and what the state after it breaks
abbrev pub is_made : Told → Bool
is_made NotEnabled = false
is_made (Made found) = true

abbrev pub breach_of : Told → Option Breach
breach_of NotEnabled = None
breach_of (Made found) = found

-- what may be broken after it
abbrev pub doubts_of : Effect → Bool → Doubts
doubts_of effect twice = record { twice = twice; roots = needs_roots effect.calm effect.change; runs = needs_runs effect.calm effect.change }

-- what is kept after an event of a caller that led to the state, and what is found then
pub record Settles (state : SourceMachine) (c : ℕ) (effect : Effect) (kept kept' : Kept) (found : Option Breach) : Type 0 where
  pub numbers : (name : ℕ) → numbering kept'.retirements name ≡ with_retirement (numbering kept.retirements) (retired_by effect.change) (length state.memory.retired) name
  pub added : Option ℕ
  pub follows : Follows effect.gain state c kept.runs.items kept'.runs.items added
  pub told : IsTold (doubts_of effect (is_second (numbering kept.retirements) (retired_by effect.change))) (numbering kept'.retirements) state kept'.runs.items c added found

-- an event was made; if the state before it was proper, then what is kept afterwards is of the state after it, and what is found is what that state
-- breaks
pub record IsMade (text : Text) (event : SourceEvent) (old new : SourceMachine) (kept kept' : Kept) (found : Option Breach) : Type 0 where
  pub enabled : is_enabled text old event ≡ true
  pub stepped : new ≡ source_step text old event
  pub judged : (runs : ℕ → MethodRun) → Keeps old kept runs → IsProperState old runs
      → Keeps new kept' (watched_step text (record { machine = old; runs = runs }) event).runs
      × Shown new (watched_step text (record { machine = old; runs = runs }) event).runs found

-- an event is made exactly if it is enabled
abbrev pub JudgesEvent : Text → SourceEvent → SourceMachine → SourceMachine → Kept → Kept → Told → Type 0
JudgesEvent text event old new kept kept' NotEnabled = is_enabled text old event ≡ false
JudgesEvent text event old new kept kept' (Made found) = IsMade text event old new kept kept' found
