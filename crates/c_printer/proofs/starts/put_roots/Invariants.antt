use Rattle.std.proofs.Common.{◌≡◌, ◌++◌, drop}
use Rattle.c_printer.specs.Starts.{root_texts}
use Rattle.c_printer.proofs.starts.put_roots.Given as goal

abbrev pub invariant-loop-root : goal.invariant-loop-root
invariant-loop-root l = l.out.items ++ root_texts (drop l.root-index l.roots) ≡ l.fn.out.items ++ root_texts l.roots
