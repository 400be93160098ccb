use Rattle.std.proofs.Common.{rules}
use Rattle.caller_steps.proofs.entry.Entry.restarted.Goals as goal

pub returns-in-None : goal.returns-in-None
returns-in-None c = search rules
