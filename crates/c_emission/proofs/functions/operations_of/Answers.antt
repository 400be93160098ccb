use Rattle.norm_check.proofs.Tables.{item_stands}
use Rattle.c_emission.specs.Operations.{operation_lines}
use Rattle.c_emission.proofs.Small.{map_goes}
use Rattle.c_emission.proofs.functions.operations_of.Goals as goal

pub loop-number-preserved : goal.loop-number-preserved
loop-number-preserved c =
    map_goes (operation_lines c.args.target.now) c.args.target.now.ops c.loop-number.number c.op-item.result c.in_ok-lines.lines c.loop-number.functions.items
    c.push.new.self.items _
    (item_stands c.args.target.now.ops c.items-op-items.result.now c.loop-number.number c.op-item.result _ c.items-op-items.ensures c.loop-number-test.true
    c.op-item.is)
    c.in_ok-lines.ensures c.in_ok-push.ensures.items c.loop-number.invariant
