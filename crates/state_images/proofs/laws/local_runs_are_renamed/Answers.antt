use Rattle.state_images.proofs.Renaming.{local_runs_are_renamed}
use Rattle.state_images.proofs.laws.local_runs_are_renamed.Goals as goal

pub returns : goal.returns
returns c = local_runs_are_renamed
