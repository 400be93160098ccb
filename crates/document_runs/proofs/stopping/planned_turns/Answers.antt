use Rattle.document_runs.proofs.Halting.{stops_as_planned}
use Rattle.document_runs.proofs.stopping.planned_turns.Goals as goal

pub returns-in-Ok : goal.returns-in-Ok
returns-in-Ok c = stops_as_planned c.args.document.now c.args.plan.now c.in-Ok.whole c.requires.planned c.in-Ok.ensures
