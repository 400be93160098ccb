use Rattle.emission_rows.proofs.Rows.{pop_rows}
use Rattle.emission_rows.proofs.pop_rows.Goals as goal

pub returns : goal.returns
returns c = pop_rows
