use Rattle.std.proofs.Common.{◌≡◌, ◌↔◌, drop}
use Rattle.barrier_check.proofs.same.are_same.Given as goal

-- what is left of the one is what is left of the other exactly if the whole is
abbrev pub invariant-loop-item : goal.invariant-loop-item
invariant-loop-item g l = (drop l.item-index l.items ≡ l.rest) ↔ (l.items ≡ l.others)
