use Rattle.run_ahead.proofs.LocalRuns.{local_runs_are_followed}
use Rattle.run_ahead.proofs.laws.local_runs_are_followed.Goals as goal

pub returns : goal.returns
returns g c = local_runs_are_followed _
