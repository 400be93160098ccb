use Rattle.std.proofs.Common.{rules}
use Rattle.core_ground.proofs.port.left_by.Goals as goal

pub returns-then-found-expected : goal.returns-then-found-expected
returns-then-found-expected c = search rules
