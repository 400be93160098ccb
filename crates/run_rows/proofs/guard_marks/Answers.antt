use Rattle.run_rows.proofs.Images.{guard_marks, counted_guards, repeated_guards}
use Rattle.run_rows.proofs.guard_marks.Goals as goal

pub returns-clause-marks : goal.returns-clause-marks
returns-clause-marks c = guard_marks

pub returns-clause-counted : goal.returns-clause-counted
returns-clause-counted c = counted_guards

pub returns-clause-repeated : goal.returns-clause-repeated
returns-clause-repeated c = repeated_guards
