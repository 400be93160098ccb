use Rattle.corner_rows.proofs.States.{count_rows, status_rows}
use Rattle.corner_rows.proofs.counts_and_statuses.Goals as goal

pub returns-clause-counts : goal.returns-clause-counts
returns-clause-counts c = count_rows

pub returns-clause-statuses : goal.returns-clause-statuses
returns-clause-statuses c = status_rows
