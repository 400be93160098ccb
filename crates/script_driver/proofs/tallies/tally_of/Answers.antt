use Rattle.std.proofs.Common.{rules}
use Rattle.script_driver.proofs.tallies.tally_of.Goals as goal

pub returns : goal.returns
returns c = search rules
