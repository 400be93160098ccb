use Rattle.std.proofs.Common.{rules}
use Rattle.script_driver.proofs.parts.set_document.Goals as goal

pub returns : goal.returns
returns c = search rules
