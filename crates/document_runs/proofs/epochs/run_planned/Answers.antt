use Rattle.document_runs.proofs.EpochLaws.{is_ran}
use Rattle.document_runs.proofs.epochs.run_planned.Goals as goal

pub returns-in-Ok : goal.returns-in-Ok
returns-in-Ok g c =
    is_ran c.args.document.now c.args.plan c.in-Ok.ready.callers c.in-Ok.ready.scripts c.in-Ok.ready.fuel c.run_ready.result c.told.result c.requires.planned c.in-Ok.ensures.0 c.run_ready.ensures c.told.ensures
