use Rattle.std.proofs.Common.{subst}
use Rattle.script_plans.specs.Plans.{IsFaultOf}
use Rattle.script_driver.proofs.Accepted.{keeps_rules}
use Rattle.script_driver.proofs.workload.run_accepted.Goals as goal

pub unreachable-requires : goal.unreachable-requires
unreachable-requires g c =
    keeps_rules c.args.document.now c.in-Err-Refused.field-0-0 c.requires.runnable
    (subst (IsFaultOf c.args.document.now) c.in-Err-Refused.field-0-is c.in-Err-Refused.ensures)
