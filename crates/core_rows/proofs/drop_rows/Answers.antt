use Rattle.core_rows.proofs.Drops.{drop_rows}
use Rattle.core_rows.proofs.drop_rows.Goals as goal

pub returns : goal.returns
returns c = drop_rows
