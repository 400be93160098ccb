use Rattle.std.proofs.Common.{rules}
use Rattle.phase_pools.proofs.sweep.SweepState.accept.Goals as goal

pub invariant_of-self : goal.invariant_of-self
invariant_of-self c = search rules

pub returns-in-ReadPhase-clause-same : goal.returns-in-ReadPhase-clause-same
returns-in-ReadPhase-clause-same c = search rules
