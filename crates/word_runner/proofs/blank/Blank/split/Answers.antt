use Rattle.std.proofs.Common.{rules}
use Rattle.word_runner.proofs.blank.Blank.split.Goals as goal

pub returns-clause-ok : goal.returns-clause-ok
returns-clause-ok c = search rules
