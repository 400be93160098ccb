-- What method runs have got, kept beside a state in lists of any order.
use Rattle.std.specs.Prelude.{◌≡◌, ℕ, Bool, true, false, List, length, Option, Some, None, slice_get, slice_set}
use Rattle.norm_lang.specs.declared.text.Text.{Text}
use Rattle.source_machine.specs.declared.event.SourceEvent.{SourceEvent}
use Rattle.source_machine.specs.declared.state.SourceMachine.{SourceMachine}
use Rattle.source_machine.specs.Run.{is_enabled, source_step}
use Rattle.source_machine.specs.MethodRuns.{MethodRun, watched_step}
use Rattle.source_machine.specs.Proper.{has}
use Rattle.state_judge.specs.declared.runs.ListedRun.{ListedRun}

-- the lists hold the names of a method run
pub record ListsRun (kept : ListedRun) (run : MethodRun) : Type 0 where
  pub got : (name : ℕ) → has name kept.got ≡ has name run.got
  pub old : (name : ℕ) → has name kept.old ≡ has name run.old

abbrev pub ListsOf : Option ListedRun → MethodRun → Type 0
ListsOf None run = Unit {0}
ListsOf (Some kept) run = ListsRun kept run

-- the same of each caller that there are lists for
abbrev pub ListsRuns : List ListedRun → (ℕ → MethodRun) → Type 0
ListsRuns kept runs = (c : ℕ) → ListsOf (slice_get kept c) (runs c)

-- the lists of one run after it
abbrev pub NextOf : Option ListedRun → (MethodRun → MethodRun) → Option ListedRun → Type 0
NextOf None f next = next ≡ None
NextOf (Some kept) f None = ⊥
NextOf (Some kept) f (Some next) = (run : MethodRun) → ListsRun kept run → ListsRun next (f run)

abbrev pub placed : List ListedRun → ℕ → Option ListedRun → List ListedRun
placed kept c None = kept
placed kept c (Some next) = slice_set kept c next

-- an event is made exactly if it is enabled, and the lists then hold the runs after it
abbrev pub Follows : Text → SourceEvent → SourceMachine → SourceMachine → List ListedRun → List ListedRun → Bool → Type 0
Follows text event old new kept kept' true =
    (is_enabled text old event ≡ true) × (new ≡ source_step text old event) × (length kept' ≡ length kept)
    × ((runs : ℕ → MethodRun) → ListsRuns kept runs → ListsRuns kept' (watched_step text (record { machine = old; runs = runs }) event).runs)
Follows text event old new kept kept' false = is_enabled text old event ≡ false
