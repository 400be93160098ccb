use Rattle.std.proofs.Common.{rules}
use Rattle.caller_steps.proofs.entry.Entry.checked.Goals as goal

pub returns-then-word-self : goal.returns-then-word-self
returns-then-word-self c = search rules
