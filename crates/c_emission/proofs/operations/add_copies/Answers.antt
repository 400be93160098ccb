use Rattle.std.proofs.Common.{arith}
use Rattle.c_emission.proofs.Steps.{copy_goes}
use Rattle.c_emission.proofs.operations.add_copies.Goals as goal

pub loop-copied-preserved : goal.loop-copied-preserved
loop-copied-preserved c =
    copy_goes c.args.to c.args.from c.loop-copied.copied c.args.count c.loop-copied.lines.items c.push.new.self.items _ (omega (arith, c.loop-copied-test.true))
    c.in_ok-push.ensures.items c.loop-copied.invariant
