use Rattle.request_rows.proofs.Computed.{answered_rows}
use Rattle.request_rows.proofs.requests_can_be_answered.Goals as goal

pub returns : goal.returns
returns c = answered_rows c.set_is_normal.ensures
