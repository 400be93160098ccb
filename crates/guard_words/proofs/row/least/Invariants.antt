use Rattle.std.proofs.Common.{◌≡◌, ◌-◌, length}
use Rattle.guard_words.specs.Guards.{least_from, is_to_clear}
use Rattle.guard_words.proofs.row.least.Given as goal

abbrev pub invariant-loop-r : goal.invariant-loop-r
invariant-loop-r l = least_from (is_to_clear l.slots l.spared) l.r (length l.slots - l.r) ≡ least_from (is_to_clear l.slots l.spared) 0 (length l.slots)
