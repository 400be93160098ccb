use Rattle.state_images.proofs.Simulating.{images_simulate}
use Rattle.state_images.proofs.laws.images_simulate.Goals as goal

pub returns : goal.returns
returns c = images_simulate
