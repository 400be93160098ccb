use Rattle.std.proofs.Common.{rules}
use Rattle.target_reader.proofs.own.guarded.Goals as goal

pub returns-in-Num : goal.returns-in-Num
returns-in-Num c = search rules
