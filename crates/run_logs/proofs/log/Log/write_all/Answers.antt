use Rattle.run_logs.proofs.Writing.{next, first}
use Rattle.run_logs.proofs.log.Log.write_all.Goals as goal

pub loop-sign-preserved : goal.loop-sign-preserved
loop-sign-preserved c = record {
  runs = c.in_ok-write.ensures.runs;
  same =
      next c.args.normal.now c.args.caller c.args.call c.args.signs.now c.loop-sign.sign-index _ c.loop-sign.self _ _ c.loop-sign-test.true c.in_ok-write.ensures.written
      c.loop-sign.invariant.same;
  first =
      first c.args.normal.now c.args.caller c.args.call c.args.signs.now c.loop-sign.sign-index _ c.loop-sign.self _ _ c.loop-sign-test.true c.in_ok-write.ensures.written
      c.loop-sign.invariant.first;
}
