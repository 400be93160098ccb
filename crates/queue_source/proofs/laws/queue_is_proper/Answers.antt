use Rattle.queue_source.proofs.Proper.{queue_is_proper}
use Rattle.queue_source.proofs.laws.queue_is_proper.Goals as goal

pub returns : goal.returns
returns c = queue_is_proper
