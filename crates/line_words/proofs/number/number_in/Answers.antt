use Rattle.std.proofs.Common.{rules}
use Rattle.line_words.proofs.number.number_in.Goals as goal

pub returns : goal.returns
returns c = search rules
