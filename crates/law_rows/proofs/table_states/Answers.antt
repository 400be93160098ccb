use Rattle.law_rows.proofs.Tables.{shown_rows, not_shown_rows, not_closed_rows}
use Rattle.law_rows.proofs.table_states.Goals as goal

pub returns-clause-shown : goal.returns-clause-shown
returns-clause-shown c = shown_rows

pub returns-clause-not_shown : goal.returns-clause-not_shown
returns-clause-not_shown c = not_shown_rows

pub returns-clause-not_closed : goal.returns-clause-not_closed
returns-clause-not_closed c = not_closed_rows
