use Rattle.std.proofs.Common.{rules}
use Rattle.oa_words.proofs.shape.Shape.field_at.Goals as goal

pub returns : goal.returns
returns c = search rules
