use Rattle.emission_laws.proofs.Starts.{starts_are_made}
use Rattle.emission_laws.proofs.laws.starts_are_made.Goals as goal

pub returns : goal.returns
returns c = starts_are_made
