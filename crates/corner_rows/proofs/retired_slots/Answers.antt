use Rattle.corner_rows.proofs.Runs.{object_rows, later_rows}
use Rattle.corner_rows.proofs.retired_slots.Goals as goal

pub returns-clause-objects : goal.returns-clause-objects
returns-clause-objects c = object_rows

pub returns-clause-later : goal.returns-clause-later
returns-clause-later c = later_rows
