-- That properness is of one to eight callers.
use Rattle.std.proofs.Common.{ℕ, zero, suc, ◌≤◌, List, arith}
use Rattle.norm_lang.specs.declared.text.Text.{Text}
use Rattle.source_machine.specs.declared.event.SourceEvent.{SourceEvent}
use Rattle.source_machine.specs.declared.state.SourceMachine.{SourceMachine}
use Rattle.source_machine.specs.Run.{IsSourceRun}
use Rattle.source_machine.specs.MethodRuns.{method_runs}
use Rattle.source_machine.specs.Proper.{IsProper, IsProperState}
use Rattle.proper_rows.specs.Eight.{AreRunsProper, AreEightProper, ProperIsOfEight}

one_of : (text : Text) (callers : ℕ) → IsProper text → callers ≤ 8 → AreRunsProper text callers
one_of text callers proper few = λ events state run. proper callers events state few run

to_eight : (text : Text) → IsProper text → AreEightProper text
to_eight text proper = (
  one_of text 1 proper (omega arith),
  one_of text 2 proper (omega arith),
  one_of text 3 proper (omega arith),
  one_of text 4 proper (omega arith),
  one_of text 5 proper (omega arith),
  one_of text 6 proper (omega arith),
  one_of text 7 proper (omega arith),
  one_of text 8 proper (omega arith),
)

of_eight : (text : Text) → AreEightProper text → (callers : ℕ) (events : List SourceEvent) (state : SourceMachine) → callers ≤ 8
    → IsSourceRun text callers events state → IsProperState state (method_runs text callers events)
of_eight text (one, two, three, four, five, six, seven, eight) zero events state le run = absurd (let no : ⊥ = (let some = run.some in omega (arith, some)) in no)
of_eight text (one, two, three, four, five, six, seven, eight) (suc zero) events state le run = one events state run
of_eight text (one, two, three, four, five, six, seven, eight) (suc (suc zero)) events state le run = two events state run
of_eight text (one, two, three, four, five, six, seven, eight) (suc (suc (suc zero))) events state le run = three events state run
of_eight text (one, two, three, four, five, six, seven, eight) (suc (suc (suc (suc zero)))) events state le run = four events state run
of_eight text (one, two, three, four, five, six, seven, eight) (suc (suc (suc (suc (suc zero))))) events state le run = five events state run
of_eight text (one, two, three, four, five, six, seven, eight) (suc (suc (suc (suc (suc (suc zero)))))) events state le run = six events state run
of_eight text (one, two, three, four, five, six, seven, eight) (suc (suc (suc (suc (suc (suc (suc zero))))))) events state le run = seven events state run
of_eight text (one, two, three, four, five, six, seven, eight) (suc (suc (suc (suc (suc (suc (suc (suc zero)))))))) events state le run = eight events state run
of_eight text (one, two, three, four, five, six, seven, eight) (suc (suc (suc (suc (suc (suc (suc (suc (suc n))))))))) events state le run =
    absurd (let no : ⊥ = omega (arith, le) in no)

pub proper_is_of_eight : ProperIsOfEight
proper_is_of_eight text = (to_eight text, λ eight. of_eight text eight)
