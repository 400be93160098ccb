use Rattle.claim_laws.proofs.Taking.{full_takes_calls}
use Rattle.claim_laws.proofs.laws.full_takes_calls.Goals as goal

pub returns : goal.returns
returns c = full_takes_calls
