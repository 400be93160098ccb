use Rattle.std.proofs.Common.{rules}
use Rattle.caller_steps.proofs.entry.Entry.list_ended.Goals as goal

pub returns : goal.returns
returns c = search rules
