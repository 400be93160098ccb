use Rattle.std.proofs.Common.{rules}
use Rattle.core_ground.proofs.words.PlainWords.phase.Goals as goal

pub returns : goal.returns
returns c = search rules
