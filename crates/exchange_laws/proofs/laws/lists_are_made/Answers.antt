use Rattle.exchange_laws.proofs.Lists.{lists_are_made}
use Rattle.exchange_laws.proofs.laws.lists_are_made.Goals as goal

pub returns : goal.returns
returns c = lists_are_made
