use Rattle.std.proofs.Common.{◌≡◌, length}
use Rattle.documents.specs.DocumentRead.{after_lines}
use Rattle.documents.specs.TailShown.{tail_shown}
use Rattle.documents.proofs.reader.add_tail.Given as goal

abbrev pub invariant-lines : goal.invariant-lines
invariant-lines l = record {
  same : after_lines (tail_shown l.tail) l.cursor.lines ≡ after_lines (tail_shown l.fn.tail) l.fn.cursor.lines;
  kept : l.tail.text ≡ l.fn.tail.text;
}

abbrev pub decreases-lines : goal.decreases-lines
decreases-lines l = length l.cursor.lines
