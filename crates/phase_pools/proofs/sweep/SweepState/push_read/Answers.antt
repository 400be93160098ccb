use Rattle.std.proofs.Common.{rules}
use Rattle.phase_pools.proofs.sweep.SweepState.push_read.Goals as goal

pub returns-clause-same : goal.returns-clause-same
returns-clause-same c = search rules
