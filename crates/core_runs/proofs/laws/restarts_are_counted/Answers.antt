use Rattle.core_runs.proofs.Restarting.{restarts_are_counted}
use Rattle.core_runs.proofs.laws.restarts_are_counted.Goals as goal

pub returns : goal.returns
returns c = restarts_are_counted
