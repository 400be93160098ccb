use Rattle.scheme_laws.proofs.Fewer as fewer
use Rattle.scheme_laws.proofs.laws.checks_are_fewer.Goals as goal

pub returns : goal.returns
returns c = fewer.checks_are_fewer
