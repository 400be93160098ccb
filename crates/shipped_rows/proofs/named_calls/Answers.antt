use Rattle.shipped_rows.proofs.Rows.{named_rows}
use Rattle.shipped_rows.proofs.named_calls.Goals as goal

pub returns : goal.returns
returns c = named_rows
