use Rattle.std.proofs.Common.{rules}
use Rattle.oa_words.proofs.shape.slots_together.Goals as goal

pub returns-clause-same : goal.returns-clause-same
returns-clause-same c = search rules

pub returns-clause-whole : goal.returns-clause-whole
returns-clause-whole c = search rules
