use Rattle.std.proofs.Common.{rules}
use Rattle.caller_steps.proofs.entry.Entry.check_failed.Goals as goal

pub returns : goal.returns
returns c = search rules
