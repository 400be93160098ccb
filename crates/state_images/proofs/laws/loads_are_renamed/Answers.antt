use Rattle.state_images.proofs.Loading.{loads_are_renamed}
use Rattle.state_images.proofs.laws.loads_are_renamed.Goals as goal

pub returns : goal.returns
returns c = loads_are_renamed
