use Rattle.run_ahead.proofs.Restarting.{restarts_are_followed}
use Rattle.run_ahead.proofs.laws.restarts_are_followed.Goals as goal

pub returns : goal.returns
returns g c = restarts_are_followed _ _
