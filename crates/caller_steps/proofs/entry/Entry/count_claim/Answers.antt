use Rattle.std.proofs.Common.{rules}
use Rattle.caller_steps.proofs.entry.Entry.count_claim.Goals as goal

pub returns-then-takes : goal.returns-then-takes
returns-then-takes c = search rules
