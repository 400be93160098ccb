use Rattle.std.proofs.Common.{◌≡◌, ◌+◌, ◌-◌, ◌*◌, ◌++◌, []}
use Rattle.std.specs.Prelude.{slice_index}
use Rattle.state_words.specs.Layout.{nodes_onto}
use Rattle.state_words.proofs.reading.nodes.Given as goal

abbrev pub invariant-loop-earlier : goal.invariant-loop-earlier
invariant-loop-earlier l = record {
  at : l.at ≡ l.start + 20 * l.earlier;
  read : nodes_onto l.cells l.from l.at (l.earlier + 1) (l.count - l.earlier) l.rows ≡ nodes_onto l.cells l.from l.start 1 l.count [];
}
