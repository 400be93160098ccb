use Rattle.std.proofs.Common.{rules}
use Rattle.phase_pools.proofs.claim.ClaimState.swept.Goals as goal

pub returns-in-Some-PhasesOver-clause-same : goal.returns-in-Some-PhasesOver-clause-same
returns-in-Some-PhasesOver-clause-same c = search rules

pub returns-in-Some-Swept-clause-same : goal.returns-in-Some-Swept-clause-same
returns-in-Some-Swept-clause-same c = search rules
