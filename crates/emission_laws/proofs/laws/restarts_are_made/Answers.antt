use Rattle.emission_laws.proofs.Starts.{restarts_are_made}
use Rattle.emission_laws.proofs.laws.restarts_are_made.Goals as goal

pub returns : goal.returns
returns c = restarts_are_made
