use Rattle.run_ahead.proofs.Accesses.{exchanges_are_followed}
use Rattle.run_ahead.proofs.laws.exchanges_are_followed.Goals as goal

pub returns : goal.returns
returns g c = exchanges_are_followed _
