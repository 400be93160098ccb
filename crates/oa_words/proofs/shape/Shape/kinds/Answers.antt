use Rattle.std.proofs.Common.{rules}
use Rattle.oa_words.proofs.shape.Shape.kinds.Goals as goal

pub returns-clause-same : goal.returns-clause-same
returns-clause-same c = search rules

pub returns-clause-few : goal.returns-clause-few
returns-clause-few c = search rules
