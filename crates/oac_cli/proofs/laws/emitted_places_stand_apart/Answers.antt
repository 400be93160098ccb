use Rattle.oac_cli.proofs.Strides.{places_apart}
use Rattle.oac_cli.proofs.laws.emitted_places_stand_apart.Goals as goal

pub returns : goal.returns
returns c = places_apart
