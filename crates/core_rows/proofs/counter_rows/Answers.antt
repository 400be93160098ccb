use Rattle.core_rows.proofs.Counters.{counter_rows, again_rows, number_rows}
use Rattle.core_rows.proofs.counter_rows.Goals as goal

pub returns-clause-counter : goal.returns-clause-counter
returns-clause-counter c = counter_rows

pub returns-clause-again : goal.returns-clause-again
returns-clause-again c = again_rows

pub returns-clause-numbers : goal.returns-clause-numbers
returns-clause-numbers c = number_rows
