use Rattle.emission_rows.proofs.Rows.{push_rows}
use Rattle.emission_rows.proofs.push_rows.Goals as goal

pub returns : goal.returns
returns c = push_rows
