use Rattle.std.proofs.Common.{◌+◌, arith}
use Rattle.core_ground.specs.Starts.{bare_start}
use Rattle.core_ground.proofs.Starting.{link_put}
use Rattle.core_ground.proofs.words.put_links.Goals as goal

pub loop-slot-preserved : goal.loop-slot-preserved
loop-slot-preserved c =
    link_put c.args.setting.now.sizes (bare_start c.args.setting.now) c.loop-slot.words c.push.new.self _ c.loop-slot.slot (c.slots-slots.result + 1) c.start_link.result
    c.loop-slot.invariant (omega (arith, c.loop-slot-test.true)) c.in_ok-push.ensures.ok c.start_link.ensures
