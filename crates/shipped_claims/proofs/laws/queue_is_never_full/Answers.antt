use Rattle.shipped_claims.proofs.NeverFull.{queues_never_full}
use Rattle.shipped_claims.proofs.laws.queue_is_never_full.Goals as goal

pub returns : goal.returns
returns c = queues_never_full c.second_scheme_is_barred.ensures c.second_scheme_is_within.ensures c.shipped_are_within.ensures c.queue_is_normal.ensures
