use Rattle.core_runs.proofs.core_sound.Reached.{states_are_sound, states_stay, states_are_shaped, claims_follow}
use Rattle.core_runs.proofs.core_sound.states_are_sound.Goals as goal

pub returns-clause-sound : goal.returns-clause-sound
returns-clause-sound c = states_are_sound

pub returns-clause-stays : goal.returns-clause-stays
returns-clause-stays c = states_stay

pub returns-clause-shaped : goal.returns-clause-shaped
returns-clause-shaped c = states_are_shaped

pub returns-clause-claims : goal.returns-clause-claims
returns-clause-claims c = claims_follow
