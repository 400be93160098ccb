use Rattle.std.proofs.Common.{rules}
use Rattle.oa_text.proofs.reading.plain.Goals as goal

pub returns-then-b-ge32 : goal.returns-then-b-ge32
returns-then-b-ge32 c = search rules
