use Rattle.std.proofs.Common.{◌+◌, arith, ap}
use Rattle.oa_words.specs.Starts.{start_row}
use Rattle.core_ground.specs.Running.{pair_of}
use Rattle.core_ground.specs.Starts.{start_of}
use Rattle.core_ground.proofs.Starting.{row_put}
use Rattle.core_ground.proofs.words.put_rows.Goals as goal

pub loop-slot-preserved : goal.loop-slot-preserved
loop-slot-preserved c =
    row_put c.args.setting.now.sizes (start_of (pair_of c.args.runs).target c.args.setting.now) c.loop-slot.words c.put_row.new.words _ _ c.loop-slot.slot (c.slots-slots.result + 1) c.loop-slot.invariant (omega (arith, c.loop-slot-test.true))
    c.in_ok-put_row.ensures (ap (start_row c.args.setting.now.sizes.fields) c.node_in.ensures)
