use Rattle.run_ahead.proofs.Begins.{begins_are_followed}
use Rattle.run_ahead.proofs.laws.begins_are_followed.Goals as goal

pub returns : goal.returns
returns g c = begins_are_followed _
