use Rattle.std.proofs.Common.{rules}
use Rattle.documents.proofs.schedule.turn.Goals as goal

pub returns-in_ok-caller-2 : goal.returns-in_ok-caller-2
returns-in_ok-caller-2 c = search rules
