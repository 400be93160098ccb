use Rattle.script_plans.proofs.EpochPlanned.{is_planned}
use Rattle.script_plans.proofs.epoch_plan.plan_of_normal.Goals as goal

pub returns-in-Ok-clause-exact : goal.returns-in-Ok-clause-exact
returns-in-Ok-clause-exact c =
    is_planned c.args.document.now c.args.normal c.in-Ok.setting c.in-Ok.scripts c.requires.text c.requires.normal c.in-Ok.ensures.shape c.in-Ok.ensures.calls
