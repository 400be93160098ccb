use Rattle.std.proofs.Common.{rules}
use Rattle.phase_pools.proofs.claim.ClaimState.pending.Goals as goal

pub returns-in-StoreUsed-clause-same : goal.returns-in-StoreUsed-clause-same
returns-in-StoreUsed-clause-same c = search rules

pub returns-in-ReadHead-clause-same : goal.returns-in-ReadHead-clause-same
returns-in-ReadHead-clause-same c = search rules
