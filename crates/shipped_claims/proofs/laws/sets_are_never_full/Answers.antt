use Rattle.shipped_claims.proofs.NeverFull.{sets_never_full}
use Rattle.shipped_claims.proofs.laws.sets_are_never_full.Goals as goal

pub returns : goal.returns
returns c = sets_never_full c.second_scheme_is_barred.ensures c.second_scheme_is_within.ensures c.shipped_are_within.ensures c.set_is_normal.ensures
