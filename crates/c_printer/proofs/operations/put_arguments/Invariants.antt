use Rattle.std.proofs.Common.{◌≡◌, ◌++◌, ◌-◌}
use Rattle.c_printer.specs.Operations.{argument_texts}
use Rattle.c_printer.proofs.operations.put_arguments.Given as goal

abbrev pub invariant-loop-number : goal.invariant-loop-number
invariant-loop-number l = l.out.items ++ argument_texts l.number (l.arguments - l.number) ≡ l.fn.out.items ++ argument_texts 0 l.arguments
