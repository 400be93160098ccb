use Rattle.std.proofs.Common.{rules}
use Rattle.oa_core.proofs.progress.Terms.move_on.Goals as goal

pub returns-clause-counted : goal.returns-clause-counted
returns-clause-counted c = search rules
