use Rattle.std.proofs.Common.{rules}
use Rattle.line_words.proofs.operands.field_number.Goals as goal

pub returns-in-None : goal.returns-in-None
returns-in-None c = search rules
