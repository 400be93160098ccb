use Rattle.std.proofs.Common.{arith}
use Rattle.c_printer.proofs.Counted.{given_more}
use Rattle.c_printer.proofs.operations.put_all_given.Goals as goal

pub loop-number-preserved : goal.loop-number-preserved
loop-number-preserved c =
    given_more c.args.arguments c.loop-number.number c.loop-number.out.items c.put_given.new.out.items _ (omega (arith, c.loop-number-test.true))
    c.in_ok-put_given.ensures c.loop-number.invariant
