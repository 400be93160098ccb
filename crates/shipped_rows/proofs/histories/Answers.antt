use Rattle.shipped_rows.proofs.Legal.{legal_rows}
use Rattle.shipped_rows.proofs.histories.Goals as goal

pub returns : goal.returns
returns c = legal_rows
