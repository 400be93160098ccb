use Rattle.run_ahead.proofs.Begins.{again_is_followed}
use Rattle.run_ahead.proofs.laws.again_is_followed.Goals as goal

pub returns : goal.returns
returns g c = again_is_followed _
