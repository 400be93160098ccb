use Rattle.std.proofs.Common.{◌≡◌, ◌++◌, length, take, drop}
use Rattle.guard_words.specs.Guards.{passed}
use Rattle.guard_words.proofs.row.pass.Given as goal

abbrev pub invariant-loop-r : goal.invariant-loop-r
invariant-loop-r l = record { same : length l.flags ≡ length l.slots; whole : take l.r l.flags ++ passed (drop l.r l.slots) (drop l.r l.flags) ≡ passed l.slots l.fn.flags }
