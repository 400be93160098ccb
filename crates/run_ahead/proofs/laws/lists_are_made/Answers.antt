use Rattle.run_ahead.proofs.Lists.{lists_are_made}
use Rattle.run_ahead.proofs.laws.lists_are_made.Goals as goal

pub returns : goal.returns
returns c = lists_are_made
