use Rattle.std.proofs.Common.{rules, length, Err, ap, ◌∙◌}
use Rattle.script_plans.specs.declared.fault.ShapeFault.{ShapeFault}
use Rattle.script_plans.specs.Shapes.{whole_fault, sizes_of}
use Rattle.script_plans.proofs.Settings.{shape_fine, shape_refused}
use Rattle.script_plans.proofs.setting.shape_of.Goals as goal

pub returns-in-Ok : goal.returns-in-Ok
returns-in-Ok c = search (rules, shape_fine)

pub returns-in-Err : goal.returns-in-Err
returns-in-Err c =
    ap (λ (f : ShapeFault). Err f) (c.whole_fault.ensures ∙ ap whole_fault c.sizes_number.ensures)
    ∙ shape_refused (length c.args.document.now.text.kinds) (sizes_of c.args.document.now) c.in-Err.fault (search rules)
