use Rattle.std.proofs.lemmas.Result.{err_from_is_err_and}
use Rattle.script_plans.specs.Shapes.{setting_of, shape_fault}
use Rattle.script_plans.proofs.Planned.{shapely, is_misshapen}
use Rattle.script_plans.proofs.judged.if_shaped.Goals as goal

pub returns-in_err-shaped : goal.returns-in_err-shaped
returns-in_err-shaped c =
    let p = err_from_is_err_and c.from_residual.result c.from_residual.ensures.1 in
    rw (p.1, p.2) (is_misshapen c.args.document.now c.in_err-shaped.field-0.0 c.requires.normal c.in_err-shaped.ensures)

pub returns : goal.returns
returns c =
    let shape = shapely (shape_fault c.args.document.now) (setting_of c.args.document.now) _ c.in_ok-shaped.ensures in
    (c.requires.text, record { normal = c.requires.normal; shape = shape.0 })
