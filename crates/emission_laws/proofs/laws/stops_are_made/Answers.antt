use Rattle.emission_laws.proofs.Stops.{stops_are_made}
use Rattle.emission_laws.proofs.laws.stops_are_made.Goals as goal

pub returns : goal.returns
returns c = stops_are_made
