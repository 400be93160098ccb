use Rattle.std.proofs.lemmas.Result.{err_from_is_err_and}
use Rattle.script_plans.proofs.Planned.{is_planned, is_misshapen}
use Rattle.script_plans.proofs.plan.plan_of_normal.Goals as goal

pub returns-in_err-setting-clause-exact : goal.returns-in_err-setting-clause-exact
returns-in_err-setting-clause-exact c =
    let p = err_from_is_err_and c.from_residual.result c.from_residual.ensures.1 in
    rw (p.1, p.2) (is_misshapen c.args.document.now c.in_err-setting.field-0.0 c.requires.normal c.in_err-setting.ensures)

pub returns-clause-exact : goal.returns-clause-exact
returns-clause-exact c =
    is_planned c.args.document.now c.args.normal c.in_ok-barred.barred c.in_ok-setting.setting c.in_ok-scripts.scripts c.requires.text c.requires.normal c.in_ok-setting.ensures c.in_ok-barred.ensures.code c.in_ok-scripts.ensures.same
