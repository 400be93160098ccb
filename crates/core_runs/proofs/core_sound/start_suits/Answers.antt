use Rattle.core_runs.proofs.core_sound.Reached.{start_suits}
use Rattle.core_runs.proofs.core_sound.start_suits.Goals as goal

pub returns : goal.returns
returns c = start_suits
