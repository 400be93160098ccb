use Rattle.exchange_laws.proofs.Auxiliary.{exchanges_are_made}
use Rattle.exchange_laws.proofs.laws.exchanges_are_made.Goals as goal

pub returns : goal.returns
returns c = exchanges_are_made
