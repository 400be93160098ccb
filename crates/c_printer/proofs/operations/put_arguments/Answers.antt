use Rattle.std.proofs.Common.{arith}
use Rattle.c_printer.proofs.Counted.{argument_more}
use Rattle.c_printer.proofs.operations.put_arguments.Goals as goal

pub loop-number-preserved : goal.loop-number-preserved
loop-number-preserved c =
    argument_more c.args.arguments c.loop-number.number c.loop-number.out.items c.put_argument.new.out.items _ (omega (arith, c.loop-number-test.true))
    c.in_ok-put_argument.ensures c.loop-number.invariant
