-- That an answer tells one condition and one place.
use Rattle.std.specs.Prelude.{◌≡◌, ℕ, List}
use Rattle.norm_lang.specs.declared.text.Text.{Text}
use Rattle.source_machine.specs.declared.event.SourceEvent.{SourceEvent}
use Rattle.source_machine.specs.declared.state.SourceMachine.{SourceMachine}
use Rattle.source_machine.specs.MethodRuns.{MethodRun}
use Rattle.proper_judge.specs.declared.breach.Breach.{Breach}
use Rattle.proper_judge.specs.declared.judging.SoFar.TheVariants.{Improper}
use Rattle.proper_judge.specs.Breaches.{IsBreach, number_of}
use Rattle.proper_judge.specs.Judging.{Judged}

-- all breaches of a state are of one condition
abbrev pub OneConditionIsFirst : Type 0
OneConditionIsFirst =
    (state : SourceMachine) (runs : ℕ → MethodRun) (breach other : Breach) → IsBreach state runs breach → IsBreach state runs other → number_of breach ≡ number_of other

-- of the same events the same is told
abbrev pub OneAnswer : Type 0
OneAnswer =
    (text : Text) (callers at place : ℕ) (events : List SourceEvent) (breach other : Breach) → Judged text callers events (Improper breach at)
    → Judged text callers events (Improper other place) → (number_of breach ≡ number_of other) × (at ≡ place)
