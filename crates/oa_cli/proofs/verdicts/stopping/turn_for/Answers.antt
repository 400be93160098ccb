use Rattle.std.proofs.Common.{sym}
use Rattle.messages.specs.Remembered.{remembered}
use Rattle.oa_cli.proofs.Halting.{stop_for, no_stop_for}
use Rattle.oa_cli.proofs.verdicts.stopping.turn_for.Goals as goal

pub returns-then-is_stopped : goal.returns-then-is_stopped
returns-then-is_stopped g c = stop_for (remembered c.args.input.now) c.args.status c.turn_read.result (sym c.if-is_stopped.ensures) c.turn_read.ensures

pub returns-else-is_stopped : goal.returns-else-is_stopped
returns-else-is_stopped g c = no_stop_for (remembered c.args.input.now) c.args.status (sym c.if-is_stopped.ensures)
