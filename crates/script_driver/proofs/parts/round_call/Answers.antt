use Rattle.std.proofs.Common.{rules}
use Rattle.script_driver.proofs.parts.round_call.Goals as goal

pub returns-then-place-eq2 : goal.returns-then-place-eq2
returns-then-place-eq2 c = search rules

pub returns-else-place-eq2 : goal.returns-else-place-eq2
returns-else-place-eq2 c = search rules
