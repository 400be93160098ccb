use Rattle.std.proofs.Common.{rules}
use Rattle.histories.proofs.orders.can_be_made.Goals as goal

pub returns-in-NoEffect : goal.returns-in-NoEffect
returns-in-NoEffect c = search rules
