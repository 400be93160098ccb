use Rattle.word_runner.proofs.table_rule.Kept.{steps_keep_rule}
use Rattle.word_runner.proofs.table_rule.steps_keep_rule.Goals as goal

pub returns : goal.returns
returns c = steps_keep_rule
