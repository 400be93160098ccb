use Rattle.exchange_laws.proofs.Auxiliary.{retirements_are_made}
use Rattle.exchange_laws.proofs.laws.retirements_are_made.Goals as goal

pub returns : goal.returns
returns c = retirements_are_made
