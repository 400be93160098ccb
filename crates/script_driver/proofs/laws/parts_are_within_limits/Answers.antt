use Rattle.script_driver.proofs.Runnable.{parts_are_within_limits}
use Rattle.script_driver.proofs.laws.parts_are_within_limits.Goals as goal

pub returns : goal.returns
returns c = parts_are_within_limits c.shipped_are_within.ensures
