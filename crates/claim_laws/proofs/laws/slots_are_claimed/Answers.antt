use Rattle.claim_laws.proofs.Tallying.{claims_counted, unclaimed_untouched}
use Rattle.claim_laws.proofs.laws.slots_are_claimed.Goals as goal

pub returns-clause-counted : goal.returns-clause-counted
returns-clause-counted c = claims_counted

pub returns-clause-untouched : goal.returns-clause-untouched
returns-clause-untouched c = unclaimed_untouched
