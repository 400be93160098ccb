use Rattle.emission_rows.proofs.Rows.{place_rows}
use Rattle.emission_rows.proofs.place_rows.Goals as goal

pub returns : goal.returns
returns c = place_rows
