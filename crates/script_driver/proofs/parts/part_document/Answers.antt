use Rattle.std.proofs.Common.{rules}
use Rattle.script_driver.proofs.parts.part_document.Goals as goal

pub returns-in_ok-scripts : goal.returns-in_ok-scripts
returns-in_ok-scripts c = search rules
