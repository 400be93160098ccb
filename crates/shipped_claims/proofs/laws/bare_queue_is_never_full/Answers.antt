use Rattle.shipped_claims.proofs.NeverFull.{bare_queues_never_full}
use Rattle.shipped_claims.proofs.laws.bare_queue_is_never_full.Goals as goal

pub returns : goal.returns
returns c = bare_queues_never_full c.bare_texts_are_runnable.ensures c.shipped_are_within.ensures c.queue_is_normal.ensures
