use Rattle.std.proofs.Common.{rules}
use Rattle.barrier_compiler.proofs.due.Notes.checks.Goals as goal

pub returns-else-after-clause-same : goal.returns-else-after-clause-same
returns-else-after-clause-same c = search rules

pub returns-else-after-clause-next : goal.returns-else-after-clause-next
returns-else-after-clause-next c = search rules
