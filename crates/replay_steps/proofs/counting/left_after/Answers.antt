use Rattle.std.proofs.Common.{rules}
use Rattle.replay_steps.proofs.counting.left_after.Goals as goal

pub returns-then-left-le1 : goal.returns-then-left-le1
returns-then-left-le1 c = search rules
