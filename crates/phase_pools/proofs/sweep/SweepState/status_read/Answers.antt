use Rattle.std.proofs.Common.{rules}
use Rattle.phase_pools.proofs.sweep.SweepState.status_read.Goals as goal

pub returns-in_default-clause-same : goal.returns-in_default-clause-same
returns-in_default-clause-same c = search rules
