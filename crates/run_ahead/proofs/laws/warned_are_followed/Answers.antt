use Rattle.run_ahead.proofs.LocalRuns.{warned_are_followed}
use Rattle.run_ahead.proofs.laws.warned_are_followed.Goals as goal

pub returns : goal.returns
returns g c = warned_are_followed _ _
