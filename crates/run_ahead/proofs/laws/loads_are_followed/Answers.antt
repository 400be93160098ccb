use Rattle.run_ahead.proofs.Accesses.{loads_are_followed}
use Rattle.run_ahead.proofs.laws.loads_are_followed.Goals as goal

pub returns : goal.returns
returns g c = loads_are_followed _
