use Rattle.std.proofs.Common.{rules}
use Rattle.oa_words.proofs.shape.Shape.word_count.Goals as goal

pub returns : goal.returns
returns c = search rules
