use Rattle.std.proofs.Common.{rules}
use Rattle.statuses.specs.Explanations.{rule_words}
use Rattle.statuses.proofs.explanation.rule_words.Goals as goal

pub returns-then-rule-eq3 : goal.returns-then-rule-eq3
unfolding rule_words
returns-then-rule-eq3 c = search rules
