use Rattle.chain_laws.proofs.claim_order.Frontier.{claims_stay_ordered}
use Rattle.chain_laws.proofs.claim_order.claims_stay_ordered.Goals as goal

pub returns : goal.returns
returns c = claims_stay_ordered
