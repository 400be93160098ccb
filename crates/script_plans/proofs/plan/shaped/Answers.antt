use Rattle.std.proofs.Common.{rules}
use Rattle.script_plans.proofs.plan.shaped.Goals as goal

pub returns-in-Some : goal.returns-in-Some
returns-in-Some c = search rules
