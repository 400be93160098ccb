use Rattle.corner_rows.proofs.States.{event_rows}
use Rattle.corner_rows.proofs.enabled_events.Goals as goal

pub returns : goal.returns
returns c = event_rows
