use Rattle.run_ahead.proofs.Ends.{ends_are_followed}
use Rattle.run_ahead.proofs.laws.ends_are_followed.Goals as goal

pub returns : goal.returns
returns g c = ends_are_followed _
