use Rattle.claim_laws.proofs.Sought.{full_takes}
use Rattle.claim_laws.proofs.laws.full_takes_claims.Goals as goal

pub returns : goal.returns
returns c = full_takes
