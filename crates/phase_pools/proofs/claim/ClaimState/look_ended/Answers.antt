use Rattle.std.proofs.Common.{rules}
use Rattle.phase_pools.proofs.claim.ClaimState.look_ended.Goals as goal

pub returns-then-self-eq2-clause-same : goal.returns-then-self-eq2-clause-same
returns-then-self-eq2-clause-same c = search rules
