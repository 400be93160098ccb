use Rattle.std.proofs.Common.{rules}
use Rattle.phase_pools.proofs.claim.ClaimState.begin_announced.Goals as goal

pub returns-clause-same : goal.returns-clause-same
returns-clause-same c = search rules
