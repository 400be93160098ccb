use Rattle.std.proofs.lemmas.Result.{err_from_is_err_and}
use Rattle.script_plans.proofs.EpochPlanned.{is_shaped, is_misshapen}
use Rattle.script_plans.proofs.epoch_plan.parts_of.Goals as goal

pub returns-in_err-setting-clause-fault : goal.returns-in_err-setting-clause-fault
returns-in_err-setting-clause-fault c =
    let p = err_from_is_err_and c.from_residual.result c.from_residual.ensures.1 in
    rw (p.1, p.2) (is_misshapen c.args.document.now c.in_err-setting.field-0.0 c.requires.normal c.in_err-setting.ensures)

pub returns-clause-shape : goal.returns-clause-shape
returns-clause-shape c = is_shaped c.args.document.now c.in_ok-setting.setting c.in_ok-setting.ensures
