use Rattle.std.proofs.Common.{◌∙◌, subst}
use Rattle.norm_lang.specs.NormalForm.{IsNormal}
use Rattle.script_plans.proofs.judged.readied.Goals as goal

pub if_shaped-requires-clause-text : goal.if_shaped-requires-clause-text
if_shaped-requires-clause-text c = c.in_ok-normal.ensures.0 ∙ c.in_ok-copy.ensures

pub if_shaped-requires-clause-normal : goal.if_shaped-requires-clause-normal
if_shaped-requires-clause-normal c = subst IsNormal c.in_ok-copy.ensures c.in_ok-normal.ensures.1
