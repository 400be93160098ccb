use Rattle.std.proofs.Common.{arith}
use Rattle.oa_core.specs.Shown.{replay_by, shown, refusal_of}
use Rattle.replay_steps.specs.Turns.{made_to}
use Rattle.oa_core.proofs.Halting.{turn_more, stops_here, stops_nowhere}
use Rattle.oa_core.proofs.progress.Terms.count_turns.Goals as goal

pub returns-in-Err : goal.returns-in-Err
returns-in-Err c =
    stops_here (replay_by c.args.self.now) c.args.schedule.now c.loop-whole.whole _ (shown c.args.now.now) c.loop-whole.now (refusal_of c.in-Err.field-0) c.loop-whole-test.true c.loop-whole.invariant.made
    c.in-Err.ensures.made

pub loop-whole-preserved : goal.loop-whole-preserved
loop-whole-preserved c = record {
  way = c.in-Ok.ensures.under_way;
  within = omega (arith, c.loop-whole-test.true);
  made =
      turn_more (replay_by c.args.self.now) c.args.schedule.now c.loop-whole.whole _ (shown c.args.now.now) c.loop-whole.now (made_to (shown c.make_turn.new.now)) c.loop-whole-test.true c.loop-whole.invariant.made
      c.in-Ok.ensures.made;
}

pub returns : goal.returns
returns c = stops_nowhere (replay_by c.args.self.now) c.args.schedule.now c.loop-whole.whole (shown c.args.now.now) c.loop-whole.now c.loop-whole.invariant.within c.loop-whole-test.false c.loop-whole.invariant.made
