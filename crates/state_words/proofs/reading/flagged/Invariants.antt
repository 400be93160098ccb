use Rattle.std.proofs.Common.{◌≡◌, ◌+◌, ◌-◌, ◌*◌, ◌++◌, []}
use Rattle.std.specs.Prelude.{slice_index}
use Rattle.state_words.specs.Layout.{flagged}
use Rattle.state_words.proofs.reading.flagged.Given as goal

abbrev pub invariant-loop-earlier : goal.invariant-loop-earlier
invariant-loop-earlier l = record {
  at : l.at ≡ l.start + 20 * l.earlier;
  read : l.names ++ flagged l.cells l.at (l.earlier + 1) (l.count - l.earlier) ≡ flagged l.cells l.start 1 l.count;
}
