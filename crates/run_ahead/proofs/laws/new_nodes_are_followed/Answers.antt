use Rattle.run_ahead.proofs.Accesses.{new_nodes_are_followed}
use Rattle.run_ahead.proofs.laws.new_nodes_are_followed.Goals as goal

pub returns : goal.returns
returns g c = new_nodes_are_followed _
