use Rattle.std.proofs.Common.{rules}
use Rattle.barrier_compiler.proofs.due.Notes.needs_check.Goals as goal

pub returns-else-reads_some : goal.returns-else-reads_some
returns-else-reads_some c = search rules

pub returns-else-breaks : goal.returns-else-breaks
returns-else-breaks c = search rules
