use Rattle.run_ahead.proofs.Lists.{commits_are_followed}
use Rattle.run_ahead.proofs.laws.commits_are_followed.Goals as goal

pub returns : goal.returns
returns g c = commits_are_followed _
