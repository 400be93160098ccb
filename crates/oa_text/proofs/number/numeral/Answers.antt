use Rattle.std.proofs.Common.{rules}
use Rattle.oa_text.proofs.number.numeral.Goals as goal

pub returns-then-first-eq48 : goal.returns-then-first-eq48
returns-then-first-eq48 c = search rules
