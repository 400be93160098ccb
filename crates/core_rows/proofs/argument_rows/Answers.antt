use Rattle.core_rows.proofs.Presses.{press_rows}
use Rattle.core_rows.proofs.Touches.{touch_rows}
use Rattle.core_rows.proofs.Pairs.{pair_rows, fifth_rows}
use Rattle.core_rows.proofs.argument_rows.Goals as goal

pub returns-clause-press : goal.returns-clause-press
returns-clause-press c = press_rows

pub returns-clause-touch : goal.returns-clause-touch
returns-clause-touch c = touch_rows

pub returns-clause-pairs : goal.returns-clause-pairs
returns-clause-pairs c = pair_rows

pub returns-clause-fifth : goal.returns-clause-fifth
returns-clause-fifth c = fifth_rows
