use Rattle.epoch_relation.proofs.Dispatching.{steps_keep}
use Rattle.epoch_relation.proofs.laws.steps_keep.Goals as goal

pub returns : goal.returns
returns c = steps_keep
