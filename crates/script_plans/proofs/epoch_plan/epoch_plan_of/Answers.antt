use Rattle.script_plans.proofs.EpochPlanned.{planned_is_ready}
use Rattle.script_plans.proofs.epoch_plan.epoch_plan_of.Goals as goal

pub returns-clause-ready : goal.returns-clause-ready
returns-clause-ready c = planned_is_ready c.args.document.now c.planned.result c.requires c.planned.ensures.exact c.planned.ensures.words
