use Rattle.std.proofs.Common.{rules}
use Rattle.phase_pools.proofs.sweep.hazard_next.Goals as goal

pub returns-then-caller-callers-clause-same : goal.returns-then-caller-callers-clause-same
returns-then-caller-callers-clause-same c = search rules

pub returns-else-caller-callers-clause-same : goal.returns-else-caller-callers-clause-same
returns-else-caller-callers-clause-same c = search rules
