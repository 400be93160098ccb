use Rattle.state_images.proofs.Closing.{closed_is_proper}
use Rattle.state_images.proofs.laws.closed_is_proper.Goals as goal

pub returns : goal.returns
returns c = closed_is_proper
