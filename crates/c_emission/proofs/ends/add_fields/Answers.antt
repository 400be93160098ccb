use Rattle.std.proofs.Common.{arith}
use Rattle.c_emission.proofs.Steps.{field_goes}
use Rattle.c_emission.proofs.ends.add_fields.Goals as goal

pub loop-at-preserved : goal.loop-at-preserved
loop-at-preserved c =
    field_goes c.args.kind c.loop-at.at c.args.count c.loop-at.lines.items c.push.new.self.items _ (omega (arith, c.loop-at-test.true)) c.in_ok-push.ensures.items
    c.loop-at.invariant
