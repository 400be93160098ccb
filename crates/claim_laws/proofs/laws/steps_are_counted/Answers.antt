use Rattle.claim_laws.proofs.Stepping.{steps_are_counted}
use Rattle.claim_laws.proofs.laws.steps_are_counted.Goals as goal

pub returns : goal.returns
returns c = steps_are_counted
