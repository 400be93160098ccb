use Rattle.std.proofs.Common.{◌≡◌, ◌++◌, drop}
use Rattle.c_printer.specs.Operations.{declaration_texts}
use Rattle.c_printer.proofs.operations.put_declarations.Given as goal

abbrev pub invariant-loop-operation : goal.invariant-loop-operation
invariant-loop-operation l = l.out.items ++ declaration_texts l.name (drop l.operation-index l.operations) ≡ l.fn.out.items ++ declaration_texts l.name l.operations
