use Rattle.std.proofs.Common.{rules}
use Rattle.oa_words.proofs.shape.Shape.of_kinds.Goals as goal

pub returns-in_default : goal.returns-in_default
returns-in_default c = search rules

pub returns-in_default-counted : goal.returns-in_default-counted
returns-in_default-counted c = search rules

pub returns-in_default-slots_together : goal.returns-in_default-slots_together
returns-in_default-slots_together c = search rules

pub returns-in_default-counted-2 : goal.returns-in_default-counted-2
returns-in_default-counted-2 c = search rules
