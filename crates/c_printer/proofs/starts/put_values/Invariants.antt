use Rattle.std.proofs.Common.{◌≡◌, ◌++◌, drop}
use Rattle.c_printer.specs.Starts.{first_texts}
use Rattle.c_printer.proofs.starts.put_values.Given as goal

abbrev pub invariant-loop-value : goal.invariant-loop-value
invariant-loop-value l = l.out.items ++ first_texts (drop l.value-index l.values) ≡ l.fn.out.items ++ first_texts l.values
