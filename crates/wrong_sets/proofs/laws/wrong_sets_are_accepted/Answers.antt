use Rattle.wrong_sets.proofs.Normal.{unmarking_is_accepted, moving_is_accepted, walking_is_accepted, unchecking_is_accepted}
use Rattle.wrong_sets.proofs.laws.wrong_sets_are_accepted.Goals as goal

pub returns-clause-unmarking : goal.returns-clause-unmarking
returns-clause-unmarking c = unmarking_is_accepted

pub returns-clause-moving : goal.returns-clause-moving
returns-clause-moving c = moving_is_accepted

pub returns-clause-walking : goal.returns-clause-walking
returns-clause-walking c = walking_is_accepted

pub returns-clause-unchecking : goal.returns-clause-unchecking
returns-clause-unchecking c = unchecking_is_accepted
