use Rattle.std.proofs.Common.{rules}
use Rattle.script_driver.proofs.tallies.write_second.Goals as goal

pub returns-clause-bytes : goal.returns-clause-bytes
returns-clause-bytes g c = search rules
