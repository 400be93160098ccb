use Rattle.emission_laws.proofs.Accesses.{accesses_are_made}
use Rattle.emission_laws.proofs.laws.accesses_are_made.Goals as goal

pub returns : goal.returns
returns c = accesses_are_made
