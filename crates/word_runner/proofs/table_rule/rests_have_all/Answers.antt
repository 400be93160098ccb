use Rattle.word_runner.proofs.table_rule.Counts.{apart_few, apart_full}
use Rattle.word_runner.proofs.table_rule.rests_have_all.Goals as goal

pub returns : goal.returns
returns c = record { few = λ n entries apart. apart_few n entries apart; all = λ n entries apart full i lt. apart_full n entries apart full i lt }
