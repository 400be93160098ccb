use Rattle.run_ahead.proofs.Accesses.{puts_are_followed}
use Rattle.run_ahead.proofs.laws.puts_are_followed.Goals as goal

pub returns : goal.returns
returns g c = puts_are_followed _
