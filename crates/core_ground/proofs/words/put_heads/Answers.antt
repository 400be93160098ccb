use Rattle.std.proofs.Common.{arith}
use Rattle.core_ground.specs.Starts.{bare_start}
use Rattle.core_ground.proofs.Starting.{head_put}
use Rattle.core_ground.proofs.words.put_heads.Goals as goal

pub loop-kind-preserved : goal.loop-kind-preserved
loop-kind-preserved c =
    head_put c.args.setting.now.sizes (bare_start c.args.setting.now) c.loop-kind.words c.push.new.self _ c.loop-kind.kind c.kinds-kinds.result c.start_head.result
    c.loop-kind.invariant (omega (arith, c.loop-kind-test.true)) c.in_ok-push.ensures.ok c.start_head.ensures
