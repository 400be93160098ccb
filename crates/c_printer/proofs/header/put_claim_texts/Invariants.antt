use Rattle.std.proofs.Common.{◌≡◌, ◌++◌, ◌-◌}
use Rattle.c_printer.specs.Header.{claim_texts}
use Rattle.c_printer.proofs.header.put_claim_texts.Given as goal

abbrev pub invariant-loop-kind : goal.invariant-loop-kind
invariant-loop-kind l = l.out.items ++ claim_texts l.name l.kind (l.kinds - l.kind) ≡ l.fn.out.items ++ claim_texts l.name 0 l.kinds
