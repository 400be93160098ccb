use Rattle.core_rows.proofs.Combined.{combined_rows}
use Rattle.core_rows.proofs.combined_rows.Goals as goal

pub returns : goal.returns
returns c = combined_rows
