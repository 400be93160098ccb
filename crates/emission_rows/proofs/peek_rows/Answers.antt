use Rattle.emission_rows.proofs.Rows.{peek_rows}
use Rattle.emission_rows.proofs.peek_rows.Goals as goal

pub returns : goal.returns
returns c = peek_rows
