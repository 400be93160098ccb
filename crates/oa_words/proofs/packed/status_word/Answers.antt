use Rattle.std.proofs.Common.{rules}
use Rattle.oa_words.proofs.packed.status_word.Goals as goal

pub returns : goal.returns
returns c = search rules
