use Rattle.law_rows.proofs.Calls.{step_rows, cause_rows, epoch_cause_rows, claimed_rows, new_rows}
use Rattle.law_rows.proofs.call_runs.Goals as goal

pub returns-clause-steps : goal.returns-clause-steps
returns-clause-steps c = step_rows

pub returns-clause-causes : goal.returns-clause-causes
returns-clause-causes c = cause_rows

pub returns-clause-epoch_causes : goal.returns-clause-epoch_causes
returns-clause-epoch_causes c = epoch_cause_rows

pub returns-clause-claimed : goal.returns-clause-claimed
returns-clause-claimed c = claimed_rows

pub returns-clause-news : goal.returns-clause-news
returns-clause-news c = new_rows
