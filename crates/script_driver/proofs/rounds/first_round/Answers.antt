use Rattle.std.proofs.Common.{rules}
use Rattle.script_driver.proofs.rounds.first_round.Goals as goal

pub returns : goal.returns
returns c = search rules
