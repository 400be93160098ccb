use Rattle.c_rows.proofs.Values.{value_rows}
use Rattle.c_rows.proofs.value_rows.Goals as goal

pub returns : goal.returns
returns c = value_rows
