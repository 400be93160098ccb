use Rattle.std.proofs.Common.{◌≡◌, ◌+◌, drop}
use Rattle.oa_words.specs.SlotKinds.{together}
use Rattle.oa_words.proofs.shape.sum.Given as goal

-- the sum so far and that of what is left are the whole
abbrev pub invariant-loop-count : goal.invariant-loop-count
invariant-loop-count l = l.sum + together (drop l.count-index l.counts) ≡ together l.counts
