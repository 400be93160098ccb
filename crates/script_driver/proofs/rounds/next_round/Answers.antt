use Rattle.std.proofs.Common.{arith}
use Rattle.script_driver.proofs.Sequence.{seed_below}
use Rattle.script_driver.proofs.Sequence.{round_next}
use Rattle.script_driver.proofs.rounds.next_round.Goals as goal

pub returns : goal.returns
returns c = grind (arith, seed_below, round_next)
