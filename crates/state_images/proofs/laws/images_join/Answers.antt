use Rattle.state_images.proofs.Joining.{images_join}
use Rattle.state_images.proofs.laws.images_join.Goals as goal

pub returns : goal.returns
returns c = images_join
