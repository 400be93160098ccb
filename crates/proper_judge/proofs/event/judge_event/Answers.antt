use Rattle.std.proofs.Common.{refl}
use Rattle.proper_judge.proofs.Verdicts.{judges_read}
use Rattle.proper_judge.proofs.event.judge_event.Goals as goal

pub returns-clause-judges : goal.returns-clause-judges
returns-clause-judges c =
    judges_read c.args.normal.now c.text.result.now c.args.event.now c.args.state.now c.machine.result.now c.step.new.state c.machine-2.result.now c.mover.result
    c.args.kept.now _ c.settle.new.kept c.in_ok-effect.effect c.in_ok-found.found
    c.text.ensures.same c.machine.ensures c.machine-2.ensures c.mover.ensures refl refl c.in-Ok.ensures.steps.0 c.in-Ok.ensures.steps.1 c.in-Ok.ensures.callers
    c.in_ok-effect.ensures c.in_ok-found.ensures
