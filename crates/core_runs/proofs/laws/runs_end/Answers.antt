use Rattle.core_runs.proofs.Advancing.{runs_end}
use Rattle.core_runs.proofs.laws.runs_end.Goals as goal

pub returns : goal.returns
returns c = runs_end
