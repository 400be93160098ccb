use Rattle.law_rows.proofs.Slots.{touched_rows}
use Rattle.law_rows.proofs.named_slots.Goals as goal

pub returns : goal.returns
returns c = touched_rows
