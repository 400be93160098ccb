-- For how many callers a text is proper.
use Rattle.std.specs.Prelude.{ℕ, List, ◌↔◌}
use Rattle.norm_lang.specs.declared.text.Text.{Text}
use Rattle.source_machine.specs.declared.event.SourceEvent.{SourceEvent}
use Rattle.source_machine.specs.declared.state.SourceMachine.{SourceMachine}
use Rattle.source_machine.specs.Run.{IsSourceRun}
use Rattle.source_machine.specs.MethodRuns.{method_runs}
use Rattle.source_machine.specs.Proper.{IsProperState, IsProper}

-- each state of each run by so many callers is proper
abbrev pub AreRunsProper : Text → ℕ → Type 0
AreRunsProper text callers =
    (events : List SourceEvent) (state : SourceMachine) → IsSourceRun text callers events state → IsProperState state (method_runs text callers events)

abbrev pub AreEightProper : Text → Type 0
AreEightProper text =
    AreRunsProper text 1 × AreRunsProper text 2 × AreRunsProper text 3 × AreRunsProper text 4 × AreRunsProper text 5 × AreRunsProper text 6 × AreRunsProper text 7
    × AreRunsProper text 8

-- a text is proper exactly if the runs by one caller, by two, and so on to eight are
abbrev pub ProperIsOfEight : Type 0
ProperIsOfEight = (text : Text) → IsProper text ↔ AreEightProper text
