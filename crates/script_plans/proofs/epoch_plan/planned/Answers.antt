use Rattle.std.proofs.Common.{◌∙◌, subst}
use Rattle.norm_lang.specs.NormalForm.{IsNormal}
use Rattle.script_plans.proofs.epoch_plan.planned.Goals as goal

pub plan_of_normal-requires-clause-text : goal.plan_of_normal-requires-clause-text
plan_of_normal-requires-clause-text c = c.in_ok-normal.ensures.0 ∙ c.in_ok-copy.ensures

pub plan_of_normal-requires-clause-normal : goal.plan_of_normal-requires-clause-normal
plan_of_normal-requires-clause-normal c = subst IsNormal c.in_ok-copy.ensures c.in_ok-normal.ensures.1
