use Rattle.std.proofs.Common.{rules}
use Rattle.phase_pools.proofs.claim.ClaimState.sweep_follows.Goals as goal

pub returns-in-Announced-clause-same : goal.returns-in-Announced-clause-same
returns-in-Announced-clause-same c = search rules
