use Rattle.script_driver.proofs.report_laws.RunningOut.{ran_out}
use Rattle.script_driver.proofs.report_laws.spent_calls_ran_out.Goals as goal

pub returns : goal.returns
returns c = ran_out
