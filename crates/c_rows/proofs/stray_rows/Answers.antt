use Rattle.c_rows.proofs.Straying.{stray_rows}
use Rattle.c_rows.proofs.stray_rows.Goals as goal

pub returns : goal.returns
returns c = stray_rows
