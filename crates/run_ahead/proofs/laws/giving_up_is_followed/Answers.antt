use Rattle.run_ahead.proofs.Ends.{giving_up_is_followed}
use Rattle.run_ahead.proofs.laws.giving_up_is_followed.Goals as goal

pub returns : goal.returns
returns g c = giving_up_is_followed _
