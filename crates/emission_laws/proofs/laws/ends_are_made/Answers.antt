use Rattle.emission_laws.proofs.Starts.{ends_are_made}
use Rattle.emission_laws.proofs.laws.ends_are_made.Goals as goal

pub returns : goal.returns
returns c = ends_are_made
