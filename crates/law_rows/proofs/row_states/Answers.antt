use Rattle.law_rows.proofs.Rows.{phase_rows, out_of_row, strange_entries}
use Rattle.law_rows.proofs.row_states.Goals as goal

pub returns-clause-phases : goal.returns-clause-phases
returns-clause-phases c = phase_rows

pub returns-clause-out_of_row : goal.returns-clause-out_of_row
returns-clause-out_of_row c = out_of_row

pub returns-clause-strange : goal.returns-clause-strange
returns-clause-strange c = strange_entries
