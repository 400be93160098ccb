use Rattle.queue_laws.proofs.Queueing.{queue_deeds_stand}
use Rattle.queue_laws.proofs.laws.queue_deeds_stand.Goals as goal

pub returns : goal.returns
returns c = queue_deeds_stand
