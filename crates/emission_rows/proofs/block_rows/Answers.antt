use Rattle.emission_rows.proofs.Rows.{block_rows}
use Rattle.emission_rows.proofs.block_rows.Goals as goal

pub returns : goal.returns
returns c = block_rows
