use Rattle.std.proofs.Common.{◌≡◌, ◌++◌, ◌-◌}
use Rattle.c_printer.specs.Operations.{given_texts}
use Rattle.c_printer.proofs.operations.put_all_given.Given as goal

abbrev pub invariant-loop-number : goal.invariant-loop-number
invariant-loop-number l = l.out.items ++ given_texts l.number (l.arguments - l.number) ≡ l.fn.out.items ++ given_texts 0 l.arguments
