use Rattle.std.proofs.Common.{◌*◌, arith}
use Rattle.c_emission.proofs.Steps.{emptied_goes}
use Rattle.c_emission.proofs.exchanges.add_all_emptied.Goals as goal

pub loop-cradle-preserved : goal.loop-cradle-preserved
loop-cradle-preserved c =
    emptied_goes c.args.base c.loop-cradle.cradle (4 * c.args.kinds) c.loop-cradle.lines.items c.add_emptied.new.lines.items _
    (omega (arith, c.loop-cradle-test.true)) c.in_ok-add_emptied.ensures c.loop-cradle.invariant
