use Rattle.state_images.proofs.Standing.{good_states_stand_for}
use Rattle.state_images.proofs.laws.good_states_stand_for.Goals as goal

pub returns : goal.returns
returns c = good_states_stand_for
