use Rattle.std.proofs.Common.{◌≡◌, ◌++◌, drop}
use Rattle.c_printer.specs.Functions.{kind_texts}
use Rattle.c_printer.proofs.functions.put_kinds.Given as goal

abbrev pub invariant-loop-kind : goal.invariant-loop-kind
invariant-loop-kind l = l.out.items ++ kind_texts l.kind (drop l.kind l.strides) ≡ l.fn.out.items ++ kind_texts 0 l.strides
