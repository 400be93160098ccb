-- What the events of a run show of their text.
use Rattle.std.specs.Prelude.{◌≡◌, ℕ, ◌+◌, ◌≤◌, List, [], take, length, replicate}
use Rattle.norm_lang.specs.declared.text.Text.{Text}
use Rattle.source_machine.specs.declared.event.SourceEvent.{SourceEvent}
use Rattle.source_machine.specs.declared.state.SourceMachine.{SourceMachine}
use Rattle.source_machine.specs.Run.{IsSourceRun}
use Rattle.source_machine.specs.Calls.{IsStopped}
use Rattle.source_machine.specs.MethodRuns.{method_runs}
use Rattle.source_machine.specs.Proper.{IsProperFor, IsProperState}
use Rattle.proper_judge.specs.declared.breach.Breach.{Breach}
use Rattle.proper_judge.specs.declared.event.Kept.{Kept}
use Rattle.proper_judge.specs.Numbers.{numbering}
use Rattle.proper_judge.specs.Breaches.{IsBreach}
use Rattle.proper_judge.specs.declared.judging.SoFar.{SoFar}
use Rattle.proper_judge.specs.declared.judging.SoFar.TheVariants.{Proper, Improper, NotEnabled}

-- what is kept at the start: no caller has got a name, and no name is retired
pub record IsFirstKept (callers : ℕ) (kept : Kept) : Type 0 where
  pub runs : kept.runs.items ≡ replicate callers (record { got = []; before = 0 })
  pub retirements : (name : ℕ) → numbering kept.retirements name ≡ 0

-- each state is proper to which so many of the events, or fewer, lead
abbrev pub IsProperUpTo : Text → ℕ → List SourceEvent → ℕ → Type 0
IsProperUpTo text callers events count =
    (k : ℕ) (state : SourceMachine) → k ≤ count → IsSourceRun text callers (take k events) state → IsProperState state (method_runs text callers (take k events))

-- the events lead to a state that breaks a condition
pub record IsBreachAfter (text : Text) (callers : ℕ) (events : List SourceEvent) (breach : Breach) : Type 0 where
  pub state : SourceMachine
  pub run : IsSourceRun text callers events state
  pub breaks : IsBreach state (method_runs text callers events) breach

abbrev pub Judged : Text → ℕ → List SourceEvent → SoFar → Type 0
Judged text callers events Proper = ((state : SourceMachine) × IsSourceRun text callers events state) × IsProperUpTo text callers events (length events)
Judged text callers events (Improper breach at) = IsBreachAfter text callers (take (at + 1) events) breach × IsProperUpTo text callers events at
Judged text callers events (NotEnabled at) = IsStopped text callers events at × IsProperUpTo text callers events at

-- whoever shows a breach shows that the text isn't proper for so many callers
abbrev pub ImproperIsImproper : Type 0
ImproperIsImproper =
    (text : Text) (callers at : ℕ) (events : List SourceEvent) (breach : Breach) → Judged text callers events (Improper breach at) → IsProperFor callers text → ⊥
