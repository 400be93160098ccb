use Rattle.oa_core.specs.Shown.{replay_by}
use Rattle.oa_core.proofs.Looping.{callers_more}
use Rattle.oa_core.proofs.progress.Terms.end_callers.Goals as goal

pub loop-caller-preserved : goal.loop-caller-preserved
loop-caller-preserved c = record {
  way = c.in_ok-end_caller.ensures.under_way;
  same =
      callers_more (replay_by c.args.self.now) c.callers-callers.result c.loop-caller.caller c.loop-caller.now c.end_caller.new.now _ c.loop-caller-test.true c.in_ok-end_caller.ensures.made
      c.loop-caller.invariant.same;
}
