use Rattle.request_rows.proofs.Computed.{premise_rows}
use Rattle.request_rows.proofs.premises_are_met.Goals as goal

pub returns : goal.returns
returns c = premise_rows c.set_is_normal.ensures
