use Rattle.target_laws.proofs.InText.{fresh_may_be_in_text, surely_fresh_in_target}
use Rattle.target_laws.proofs.places.fresh_registers_are_in_text.Goals as goal

pub returns-clause-may : goal.returns-clause-may
returns-clause-may c = fresh_may_be_in_text

pub returns-clause-surely : goal.returns-clause-surely
returns-clause-surely c = surely_fresh_in_target
