use Rattle.claim_laws.proofs.Following.{replies_caused}
use Rattle.claim_laws.proofs.laws.replies_are_caused.Goals as goal

pub returns : goal.returns
returns c = replies_caused
