use Rattle.shipped_rows.proofs.Rows.{workload_rows, padded_rows}
use Rattle.shipped_rows.proofs.workload_calls.Goals as goal

pub returns-clause-workload : goal.returns-clause-workload
returns-clause-workload c = workload_rows

pub returns-clause-padded : goal.returns-clause-padded
returns-clause-padded c = padded_rows
