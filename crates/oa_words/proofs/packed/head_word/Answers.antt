use Rattle.std.proofs.Common.{rules}
use Rattle.oa_words.proofs.packed.head_word.Goals as goal

pub returns : goal.returns
returns c = search rules
