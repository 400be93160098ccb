use Rattle.std.proofs.Common.{◌≡◌, ◌++◌, drop}
use Rattle.c_printer.specs.Names.{names_of}
use Rattle.c_printer.specs.Functions.{local_texts}
use Rattle.c_printer.proofs.functions.put_locals.Given as goal

abbrev pub invariant-loop-d : goal.invariant-loop-d
invariant-loop-d l = l.out.items ++ local_texts (drop l.d (names_of l.table)) ≡ l.fn.out.items ++ local_texts (names_of l.table)
