use Rattle.std.proofs.Common.{rules}
use Rattle.script_driver.proofs.tallies.is_short.Goals as goal

pub returns-else-is_partial : goal.returns-else-is_partial
returns-else-is_partial c = search rules
