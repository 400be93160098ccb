use Rattle.std.proofs.Common.{◌≡◌, ◌+◌, ◌*◌, arith}
use Rattle.state_words.specs.Layout.{flagged}
use Rattle.state_words.proofs.CellLists.{flag_on}
use Rattle.state_words.proofs.reading.flagged.Goals as goal

pub loop-earlier-preserved : goal.loop-earlier-preserved
loop-earlier-preserved c =
    let at = c.loop-earlier.invariant.at in
    record {
      at = omega (arith, at);
      read = flag_on c.args.cells.now c.loop-earlier.at c.args.count c.loop-earlier.earlier c.cell.result c.loop-earlier.names c.push_if.new.names
          (flagged c.args.cells.now c.args.start 1 c.args.count) c.loop-earlier-test.true c.cell.ensures c.in_ok-push_if.ensures c.loop-earlier.invariant.read;
    }
