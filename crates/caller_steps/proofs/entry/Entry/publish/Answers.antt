use Rattle.std.proofs.Common.{rules}
use Rattle.caller_steps.proofs.entry.Entry.publish.Goals as goal

pub returns-in-Ref : goal.returns-in-Ref
returns-in-Ref c = search rules
