use Rattle.std.proofs.Common.{ap, sym, subst}
use Rattle.script_plans.specs.declared.plan.Plan.{Plan}
use Rattle.run_judge.specs.Made.{IsMakingFaultOf}
use Rattle.run_judge.proofs.Made.{is_certificate, is_not_logged}
use Rattle.run_judge.proofs.making.make_from.Goals as goal

pub images_are_accepted-requires-clause-optimistic : goal.images_are_accepted-requires-clause-optimistic
images_are_accepted-requires-clause-optimistic c = ap (λ (plan : Plan). plan.setting.reclamation) c.requires.planned.0

pub returns-in_ok-certificate_of-in-Ok : goal.returns-in_ok-certificate_of-in-Ok
returns-in_ok-certificate_of-in-Ok c =
    is_certificate c.args.document.now c.args.plan.now c.args.normal.now c.in-Ok.run' c.in_ok-certificate_of-in-Ok.field-0 c.requires.planned c.requires.ready c.kept.ensures c.kept-2.ensures
    c.images_are_accepted.ensures c.requires.text c.in-Ok.ensures c.in_ok-certificate_of-in-Ok.ensures

pub returns-in-Err : goal.returns-in-Err
returns-in-Err c =
    subst (IsMakingFaultOf c.args.document.now) (sym c.making_fault_of.ensures) (is_not_logged c.args.document.now c.args.plan.now c.args.normal.now c.in-Err.error c.requires.planned c.in-Err.ensures)
