use Rattle.chain_laws.proofs.claim_order.Stamps.{words_stay_within}
use Rattle.chain_laws.proofs.claim_order.words_stay_within.Goals as goal

pub returns : goal.returns
returns c = words_stay_within
