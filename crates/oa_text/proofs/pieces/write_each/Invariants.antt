use Rattle.std.proofs.Common.{◌≡◌, ℕ, List, Option, Result, drop}
use Rattle.std.specs.List.{flat_map}
use Rattle.oa_text.specs.Written.{Writes}
use Rattle.oa_text.specs.declared.source.Failed.{Failed}
use Rattle.oa_text.proofs.pieces.write_each.Given as goal

-- whatever writes the rest writes the whole
abbrev pub invariant-loop-thing : goal.invariant-loop-thing
invariant-loop-thing g l = record {
  rest : (new : Option (List ℕ)) (r : Result (Unit {0}) Failed) → Writes (g.K.Sink.written l.out) new (flat_map g.T.Spelled.spelling (drop l.thing-index l.things)) r → Writes (g.K.Sink.written l.fn.out) new (flat_map g.T.Spelled.spelling l.things) r;
  kept : g.K.Sink.faults l.out ≡ g.K.Sink.faults l.fn.out;
}
