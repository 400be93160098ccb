use Rattle.std.proofs.Common.{◌≡◌, ◌++◌, drop}
use Rattle.c_printer.specs.Header.{function_texts}
use Rattle.c_printer.proofs.header.put_functions.Given as goal

abbrev pub invariant-loop-kind : goal.invariant-loop-kind
invariant-loop-kind l = l.out.items ++ function_texts l.name l.strides l.kind (drop l.kind l.claims) ≡ l.fn.out.items ++ function_texts l.name l.strides 0 l.claims
