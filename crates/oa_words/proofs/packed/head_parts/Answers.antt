use Rattle.std.proofs.Common.{rules}
use Rattle.oa_words.proofs.packed.head_parts.Goals as goal

pub returns : goal.returns
returns c = search rules
