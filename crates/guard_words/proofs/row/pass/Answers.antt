use Rattle.std.proofs.Common.{◌∙◌}
use Rattle.guard_words.specs.Guards.{passed}
use Rattle.guard_words.proofs.Passing.{passed_one}
use Rattle.guard_words.proofs.row.pass.Goals as goal

pub loop-r-preserved : goal.loop-r-preserved
loop-r-preserved c = record {
  same = c.pass_one.ensures.same ∙ c.loop-r.invariant.same;
  whole = passed_one c.args.slots.now c.loop-r.r c.loop-r.flags c.pass_one.new.flags (passed c.args.slots.now c.args.flags.now) c.loop-r-test.true c.loop-r.invariant.same c.pass_one.ensures.at c.loop-r.invariant.whole;
}
