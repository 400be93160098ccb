use Rattle.std.proofs.Common.{rules}
use Rattle.phase_pools.proofs.sweep.SweepState.phase_raised.Goals as goal

pub returns-clause-same : goal.returns-clause-same
returns-clause-same c = search rules

pub invariant_of-self : goal.invariant_of-self
invariant_of-self c = search rules
