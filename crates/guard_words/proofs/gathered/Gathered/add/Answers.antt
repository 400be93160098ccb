use Rattle.std.proofs.Common.{arith}
use Rattle.std.proofs.lemmas.Grind.{common_steps}
use Rattle.guard_words.proofs.gathered.Gathered.add.Goals as goal

pub returns-then-slot-ne0 : goal.returns-then-slot-ne0
returns-then-slot-ne0 c = grind (arith, common_steps)
