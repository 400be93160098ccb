use Rattle.std.proofs.Common.{rules}
use Rattle.script_plans.proofs.Firsts.{scripts_more}
use Rattle.script_plans.proofs.Firsts.{scripts_found}
use Rattle.script_plans.proofs.Firsts.{scripts_end}
use Rattle.script_plans.proofs.shape.scripts_fault.Goals as goal

pub returns-in-Some : goal.returns-in-Some
returns-in-Some c = search (rules, scripts_more, scripts_found, scripts_end)

pub loop-script-preserved : goal.loop-script-preserved
loop-script-preserved c = search (rules, scripts_more, scripts_found, scripts_end)
