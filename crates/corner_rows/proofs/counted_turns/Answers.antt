use Rattle.corner_rows.proofs.Turns.{wanted_rows, check_rows, over_calls_rows}
use Rattle.corner_rows.proofs.counted_turns.Goals as goal

pub returns-clause-wanted : goal.returns-clause-wanted
returns-clause-wanted c = wanted_rows

pub returns-clause-checks : goal.returns-clause-checks
returns-clause-checks c = check_rows

pub returns-clause-over_calls : goal.returns-clause-over_calls
returns-clause-over_calls c = over_calls_rows
