use Rattle.std.proofs.Common.{rules}
use Rattle.oa_text.specs.Shown.{line_shown}
use Rattle.documents.specs.DocumentRead.{after_lines}
use Rattle.documents.specs.TailShown.{tail_shown}
use Rattle.documents.proofs.Reading.{tail_goes_on}
use Rattle.documents.proofs.reader.add_tail.Goals as goal

pub lines-preserved : goal.lines-preserved
lines-preserved c = record {
  same =
      tail_goes_on (tail_shown c.lines.tail) (tail_shown c.read_tail_line.new.tail) (line_shown c.in-Some.line) c.lines.cursor c.take.new.self
      (after_lines (tail_shown c.args.tail.now) c.args.cursor.now.lines) c.in-Some.ensures.line c.take.ensures.rest c.in_ok-read_tail_line.ensures.says c.lines.invariant.same;
  kept = search rules;
}
