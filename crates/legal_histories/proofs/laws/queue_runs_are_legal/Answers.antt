use Rattle.legal_histories.proofs.Legal.{queues_are_legal}
use Rattle.legal_histories.proofs.laws.queue_runs_are_legal.Goals as goal

pub returns : goal.returns
returns c = queues_are_legal c.source_queues_answer.ensures
