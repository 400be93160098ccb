use Rattle.std.proofs.Common.{rules}
use Rattle.word_runner.proofs.caller.outcome_of.Goals as goal

pub returns-in-Full : goal.returns-in-Full
returns-in-Full c = search rules

pub returns-in-Phases : goal.returns-in-Phases
returns-in-Phases c = search rules
