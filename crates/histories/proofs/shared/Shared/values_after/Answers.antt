use Rattle.std.proofs.Common.{rules}
use Rattle.histories.proofs.shared.Shared.values_after.Goals as goal

pub returns-in-Dequeue : goal.returns-in-Dequeue
returns-in-Dequeue c = search rules
