use Rattle.emission_laws.proofs.Clearing.{clears_are_made}
use Rattle.emission_laws.proofs.laws.clears_are_made.Goals as goal

pub returns : goal.returns
returns c = clears_are_made
