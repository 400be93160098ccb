use Rattle.oa_text.specs.Shown.{line_shown}
use Rattle.norm_lang.specs.declared.text.Version.TheVariants.{Second}
use Rattle.norm_lang.specs.Grammar.{Start, draft_at, after_lines}
use Rattle.norm_parser.specs.DraftShown.{draft_shown}
use Rattle.norm_parser.proofs.CursorLines.{rest_of_passed}
use Rattle.norm_parser.proofs.Reading.{kept_on, lines_go_on}
use Rattle.norm_parser.proofs.reader.add_lines.Goals as goal

pub lines-preserved : goal.lines-preserved
lines-preserved c = record {
  same =
      lines_go_on (draft_shown c.lines.draft) (draft_shown c.read_text_line.new.draft) (line_shown c.in-Some.line) c.lines.cursor c.take.new.self
      (after_lines (draft_at Second Start) c.args.cursor.now.lines) c.in-Some.ensures.line c.take.ensures.rest c.in_ok-read_text_line.ensures c.lines.invariant.same;
  kept = kept_on (draft_shown c.lines.draft) (draft_shown c.read_text_line.new.draft) (line_shown c.in-Some.line) c.lines.invariant.kept c.in_ok-read_text_line.ensures;
  rest = rest_of_passed c.args.cursor.now c.lines.cursor c.take.new.self c.lines.invariant.rest c.take.ensures.rest;
}
