use Rattle.std.proofs.Common.{◌≡◌, ℕ, List, Option, Result, length, []}
use Rattle.oa_text.specs.Written.{Writes}
use Rattle.oa_text.specs.declared.source.Failed.{Failed}
use Rattle.oa_text.proofs.sink.write_all.Given as goal

-- whatever writes the rest writes the whole
abbrev pub invariant-loop-rest : goal.invariant-loop-rest
invariant-loop-rest g l = record {
  rest : (new : Option (List ℕ)) (r : Result (Unit {0}) Failed) → Writes (g.K.Sink.written l.out) new l.rest r → Writes (g.K.Sink.written l.fn.out) new l.bytes r;
  kept : g.K.Sink.faults l.out ≡ g.K.Sink.faults l.fn.out;
  none : l.bytes ≡ [] → (l.rest ≡ []) × (l.out ≡ l.fn.out);
}

abbrev pub decreases-loop-rest : goal.decreases-loop-rest
decreases-loop-rest g l = length l.rest
