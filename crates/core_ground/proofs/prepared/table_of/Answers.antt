use Rattle.std.proofs.Common.{rules}
use Rattle.core_ground.proofs.prepared.table_of.Goals as goal

pub returns : goal.returns
returns c = search rules
