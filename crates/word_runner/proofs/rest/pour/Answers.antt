use Rattle.std.proofs.Common.{rules}
use Rattle.word_runner.proofs.rest.pour.Goals as goal

pub returns-clause-items : goal.returns-clause-items
returns-clause-items c = search rules
