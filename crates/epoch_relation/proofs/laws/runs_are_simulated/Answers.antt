use Rattle.epoch_relation.proofs.Running.{runs_are_simulated}
use Rattle.epoch_relation.proofs.laws.runs_are_simulated.Goals as goal

pub returns : goal.returns
returns c = runs_are_simulated
