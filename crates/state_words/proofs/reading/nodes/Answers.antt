use Rattle.std.proofs.Common.{◌≡◌, ◌+◌, ◌*◌, [], arith}
use Rattle.state_words.specs.Layout.{nodes_onto}
use Rattle.state_words.proofs.CellLists.{node_on}
use Rattle.state_words.proofs.reading.nodes.Goals as goal

pub loop-earlier-preserved : goal.loop-earlier-preserved
loop-earlier-preserved c =
    let at = c.loop-earlier.invariant.at in
    record {
      at = omega (arith, at);
      read = node_on c.args.cells.now c.args.from c.loop-earlier.at c.args.count c.loop-earlier.earlier c.loop-earlier.rows c.add_node.new.rows
          (nodes_onto c.args.cells.now c.args.from c.args.start 1 c.args.count []) c.loop-earlier-test.true c.in_ok-add_node.ensures c.loop-earlier.invariant.read;
    }
