use Rattle.state_images.proofs.Testing.{images_are_tested}
use Rattle.state_images.proofs.laws.images_are_tested.Goals as goal

pub returns : goal.returns
returns c = images_are_tested
