use Rattle.queue_laws.proofs.Queueing.{queue_answers}
use Rattle.queue_laws.proofs.laws.source_queues_answer.Goals as goal

pub returns : goal.returns
returns c = queue_answers
