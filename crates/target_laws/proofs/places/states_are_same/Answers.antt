use Rattle.target_laws.proofs.InText.{states_are_same}
use Rattle.target_laws.proofs.places.states_are_same.Goals as goal

pub returns : goal.returns
returns g c = states_are_same _
