use Rattle.run_ahead.proofs.LocalRuns.{guards_publish}
use Rattle.run_ahead.proofs.laws.guards_publish.Goals as goal

pub returns : goal.returns
returns g c = guards_publish _
