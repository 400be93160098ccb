use Rattle.std.proofs.Common.{ap, ◌∙◌}
use Rattle.script_plans.specs.declared.plan.Plan.{Plan}
use Rattle.run_judge.proofs.making.make_planned.Goals as goal

pub make_from-requires-clause-text : goal.make_from-requires-clause-text
make_from-requires-clause-text c = c.normal.ensures ∙ ap (λ (plan : Plan). plan.barred.source) c.requires.planned.0
