use Rattle.std.proofs.Common.{rules}
use Rattle.phase_pools.proofs.claim.ClaimState.accept.Goals as goal

pub returns-in-Take-clause-same : goal.returns-in-Take-clause-same
returns-in-Take-clause-same c = search rules
