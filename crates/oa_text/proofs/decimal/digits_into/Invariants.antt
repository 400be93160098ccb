use Rattle.std.specs.Fmt.{decimal}
use Rattle.oa_text.proofs.Digits.{IsOpen}
use Rattle.oa_text.proofs.decimal.digits_into.Given as goal

abbrev pub invariant-loop-rest : goal.invariant-loop-rest
invariant-loop-rest l = IsOpen l.buffer (decimal l.n) l.rest l.at

abbrev pub decreases-loop-rest : goal.decreases-loop-rest
decreases-loop-rest l = l.rest
