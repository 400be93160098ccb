use Rattle.std.proofs.Common.{◌+◌, ◌<◌, length, arith}
use Rattle.std.specs.Prelude.{slice_index}
use Rattle.core_ground.proofs.Placing.{searched_more}
use Rattle.core_ground.proofs.places.home_of.Goals as goal

pub loop-kind-preserved : goal.loop-kind-preserved
loop-kind-preserved c =
    let more : c.loop-kind.kind + 1 < length c.nodes-nodes.result = omega (arith, c.loop-kind-test.true) in
    let less : slice_index c.nodes-nodes.result c.loop-kind.kind < c.loop-kind.left = omega (arith, c.if-nodes-kind.true) in
    record {
      so = searched_more c.nodes-nodes.result c.args.node c.loop-kind.kind c.loop-kind.left c.loop-kind.invariant.so more less;
      few = omega (arith, c.loop-kind.invariant.few);
      within = omega (arith, more, c.nodes-nodes.type_inv);
    }
