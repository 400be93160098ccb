use Rattle.core_rows.proofs.Cradles.{branch_rows, stale_rows, late_rows}
use Rattle.core_rows.proofs.cradle_rows.Goals as goal

pub returns-clause-branches : goal.returns-clause-branches
returns-clause-branches c = branch_rows

pub returns-clause-stale : goal.returns-clause-stale
returns-clause-stale c = stale_rows

pub returns-clause-late : goal.returns-clause-late
returns-clause-late c = late_rows
