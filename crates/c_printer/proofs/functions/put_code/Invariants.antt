use Rattle.std.proofs.Common.{◌≡◌, ◌++◌, drop}
use Rattle.c_printer.specs.Names.{names_of}
use Rattle.c_printer.specs.Functions.{code_text}
use Rattle.c_printer.proofs.functions.put_code.Given as goal

abbrev pub invariant-loop-at : goal.invariant-loop-at
invariant-loop-at l =
    l.out.items ++ code_text l.name (names_of l.table) l.code l.at (drop l.at l.code) ≡ l.fn.out.items ++ code_text l.name (names_of l.table) l.code 0 l.code
