use Rattle.std.proofs.Common.{◌≡◌, ◌++◌, drop}
use Rattle.c_printer.specs.Operations.{operation_texts}
use Rattle.c_printer.proofs.operations.put_operations.Given as goal

abbrev pub invariant-loop-operation : goal.invariant-loop-operation
invariant-loop-operation l = l.out.items ++ operation_texts l.name l.strides (drop l.operation-index l.operations) ≡ l.fn.out.items ++ operation_texts l.name l.strides l.operations
