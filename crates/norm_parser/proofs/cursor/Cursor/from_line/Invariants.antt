use Rattle.norm_parser.specs.Cursors.{all_lines}
use Rattle.norm_parser.proofs.CursorLines.{IsPassed}
use Rattle.norm_parser.proofs.cursor.Cursor.from_line.Given as goal

abbrev pub invariant-loop : goal.invariant-loop
invariant-loop l = IsPassed (all_lines l.input) l.cursor l.counter
