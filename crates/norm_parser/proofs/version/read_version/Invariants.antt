use Rattle.std.proofs.Common.{◌≡◌, length}
use Rattle.norm_parser.specs.Cursors.{past_of, IsRestOf}
use Rattle.norm_parser.specs.Version.{after_version}
use Rattle.norm_parser.proofs.LinesPassed.{ArePassed}
use Rattle.norm_parser.proofs.version.read_version.Given as goal

abbrev pub invariant-lines : goal.invariant-lines
invariant-lines l = record {
  same : after_version l.name (past_of l.fn.cursor) l.cursor.lines ≡ after_version l.name (past_of l.fn.cursor) l.fn.cursor.lines;
  rest : IsRestOf l.fn.cursor l.cursor;
  passed : ArePassed l.fn.cursor l.cursor;
}

abbrev pub decreases-lines : goal.decreases-lines
decreases-lines l = length l.cursor.lines
