use Rattle.document_runs.proofs.PlanLaws.{is_replayed}
use Rattle.document_runs.proofs.running.replay_by_plan.Goals as goal

pub returns-in-Ok : goal.returns-in-Ok
returns-in-Ok c =
    is_replayed c.args.document.now c.args.plan.now c.in-Ok.ready.replay c.make_report.result c.answer_of.result c.requires.planned c.requires.ready c.in-Ok.ensures.replay c.make_report.ensures c.answer_of.ensures
