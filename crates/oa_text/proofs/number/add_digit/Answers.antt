use Rattle.std.proofs.Common.{rules}
use Rattle.oa_text.proofs.number.add_digit.Goals as goal

pub returns : goal.returns
returns c = search rules
