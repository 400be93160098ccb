use Rattle.std.proofs.Common.{rules}
use Rattle.script_driver.proofs.workload.run_workload.Goals as goal

pub returns : goal.returns
returns g c = search rules
