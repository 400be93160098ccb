use Rattle.std.proofs.Common.{rules}
use Rattle.oa_core.proofs.progress.Terms.goal_of.Goals as goal

pub returns : goal.returns
returns c = search rules
