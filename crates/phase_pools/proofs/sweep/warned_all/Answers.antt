use Rattle.std.proofs.Common.{rules}
use Rattle.phase_pools.proofs.sweep.warned_all.Goals as goal

pub returns-in-Warned-clause-same : goal.returns-in-Warned-clause-same
returns-in-Warned-clause-same c = search rules
