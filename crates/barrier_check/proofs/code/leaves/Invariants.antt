use Rattle.std.proofs.Common.{◌≡◌, ◌↔◌, drop}
use Rattle.target_code.specs.Erasing.{plain_code}
use Rattle.barrier_check.specs.SourcePlaces.{place_by}
use Rattle.barrier_check.proofs.code.leaves.Given as goal

-- what is left of the one gives what is left of the other exactly if the whole does
abbrev pub invariant-loop-instr : goal.invariant-loop-instr
invariant-loop-instr l = (plain_code (place_by l.places) (drop l.instr-index l.code) ≡ l.rest) ↔ (plain_code (place_by l.places) l.code ≡ l.source)
