use Rattle.std.proofs.Common.{rules}
use Rattle.core_ground.proofs.port.answer_to.Goals as goal

pub returns-in-Store : goal.returns-in-Store
returns-in-Store c = search rules
