use Rattle.emission_laws.proofs.LocalCode.{locals_are_made}
use Rattle.emission_laws.proofs.laws.locals_are_made.Goals as goal

pub returns : goal.returns
returns c = locals_are_made
