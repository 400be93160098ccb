use Rattle.script_driver.proofs.report_laws.UseLines.{use_lines_name}
use Rattle.script_driver.proofs.report_laws.use_lines_name.Goals as goal

pub returns : goal.returns
returns c = use_lines_name
