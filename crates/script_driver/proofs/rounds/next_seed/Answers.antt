use Rattle.std.proofs.Common.{rules}
use Rattle.script_driver.proofs.rounds.next_seed.Goals as goal

pub returns : goal.returns
returns c = search rules
