use Rattle.run_rows.proofs.Tops.{taken_and_pushed, head_again}
use Rattle.run_rows.proofs.list_tops.Goals as goal

pub returns-clause-pushed : goal.returns-clause-pushed
returns-clause-pushed c = taken_and_pushed

pub returns-clause-again : goal.returns-clause-again
returns-clause-again c = head_again
