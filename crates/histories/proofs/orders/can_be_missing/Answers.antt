use Rattle.std.proofs.Common.{rules}
use Rattle.histories.proofs.orders.can_be_missing.Goals as goal

pub returns-in-Number : goal.returns-in-Number
returns-in-Number c = search rules

pub returns-in-NoEffect : goal.returns-in-NoEffect
returns-in-NoEffect c = search rules
