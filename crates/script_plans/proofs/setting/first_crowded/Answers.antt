use Rattle.std.proofs.Common.{◌<◌, arith}
use Rattle.std.specs.Prelude.{slice_index}
use Rattle.script_plans.proofs.Counting.{crowded_found}
use Rattle.script_plans.proofs.setting.first_crowded.Goals as goal

pub returns-then-nodes-kind : goal.returns-then-nodes-kind
returns-then-nodes-kind c =
    let more : slice_index c.args.slots.now c.loop-kind.kind < slice_index c.args.nodes.now c.loop-kind.kind = omega (arith, c.if-nodes-kind.true) in
    crowded_found c.args.slots.now c.args.nodes.now c.loop-kind.kind c.loop-kind.invariant more (omega (arith, c.loop-kind-test.true))
