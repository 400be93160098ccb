use Rattle.shipped_claims.proofs.NeverFull.{bare_sets_never_full}
use Rattle.shipped_claims.proofs.laws.bare_sets_are_never_full.Goals as goal

pub returns : goal.returns
returns c = bare_sets_never_full c.bare_texts_are_runnable.ensures c.shipped_are_within.ensures c.set_is_normal.ensures
