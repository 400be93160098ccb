use Rattle.std.proofs.Common.{rules}
use Rattle.phase_pools.proofs.sweep.SweepState.retired_read.Goals as goal

pub invariant_of-self : goal.invariant_of-self
invariant_of-self c = search rules

pub returns-then-not-names-clause-same : goal.returns-then-not-names-clause-same
returns-then-not-names-clause-same c = search rules
