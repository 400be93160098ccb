use Rattle.std.proofs.Common.{rules}
use Rattle.core_ground.proofs.words.PlainWordsPort.access.Goals as goal

pub returns-clause-found : goal.returns-clause-found
returns-clause-found c = search rules
