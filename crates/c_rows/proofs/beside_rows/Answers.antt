use Rattle.c_rows.proofs.Beside.{beside_rows}
use Rattle.c_rows.proofs.beside_rows.Goals as goal

pub returns : goal.returns
returns c = beside_rows
