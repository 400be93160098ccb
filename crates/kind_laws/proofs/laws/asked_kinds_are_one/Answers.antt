use Rattle.kind_laws.proofs.InText.{asked_kinds_are_one, asked_kinds_are_one_in_target, asked_kinds_are_named}
use Rattle.kind_laws.proofs.laws.asked_kinds_are_one.Goals as goal

pub returns-clause-text : goal.returns-clause-text
returns-clause-text c = asked_kinds_are_one

pub returns-clause-target : goal.returns-clause-target
returns-clause-target c = asked_kinds_are_one_in_target

pub returns-clause-named : goal.returns-clause-named
returns-clause-named c = asked_kinds_are_named
