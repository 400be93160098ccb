use Rattle.messages.specs.Remembered.{remembered}
use Rattle.oa_cli.proofs.Halting.{stop_read, stop_forgotten}
use Rattle.oa_cli.proofs.verdicts.stopping.turn_read.Goals as goal

pub returns-in-Some : goal.returns-in-Some
returns-in-Some g c = stop_read (remembered c.args.input.now) c.in-Some.bytes.now c.turn_in.result c.in-Some.ensures.bytes c.turn_in.ensures

pub returns-in-None : goal.returns-in-None
returns-in-None g c = stop_forgotten (remembered c.args.input.now) c.in-None.ensures.bytes
