use Rattle.corner_rows.proofs.Runs.{four_rows, wide_rows}
use Rattle.corner_rows.proofs.long_paths.Goals as goal

pub returns-clause-four : goal.returns-clause-four
returns-clause-four c = four_rows

pub returns-clause-wide : goal.returns-clause-wide
returns-clause-wide c = wide_rows
