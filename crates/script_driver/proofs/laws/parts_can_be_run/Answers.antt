use Rattle.script_driver.proofs.Runnable.{parts_can_be_run}
use Rattle.script_driver.proofs.laws.parts_can_be_run.Goals as goal

pub returns : goal.returns
returns c = parts_can_be_run c.set_is_normal.ensures
