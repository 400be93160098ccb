use Rattle.std.proofs.Common.{rules}
use Rattle.caller_steps.proofs.entry.Entry.entry_made.Goals as goal

pub returns-then-succeeds : goal.returns-then-succeeds
returns-then-succeeds c = search rules
