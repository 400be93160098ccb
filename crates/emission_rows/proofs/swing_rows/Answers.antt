use Rattle.emission_rows.proofs.Rows.{swing_rows}
use Rattle.emission_rows.proofs.swing_rows.Goals as goal

pub returns : goal.returns
returns c = swing_rows
