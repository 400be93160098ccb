use Rattle.std.proofs.Common.{rules}
use Rattle.caller_steps.proofs.entry.Entry.list_begun.Goals as goal

pub returns-else-is_empty : goal.returns-else-is_empty
returns-else-is_empty c = search rules
