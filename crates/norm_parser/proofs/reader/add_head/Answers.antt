use Rattle.std.proofs.Common.{rules}
use Rattle.oa_text.specs.Shown.{line_shown}
use Rattle.norm_lang.specs.Grammar.{after_line}
use Rattle.norm_parser.specs.Cursors.{past_of}
use Rattle.norm_parser.specs.DraftShown.{draft_shown}
use Rattle.norm_parser.specs.FrontRead.{head_end}
use Rattle.norm_parser.proofs.CursorLines.{rest_of_passed}
use Rattle.norm_parser.proofs.Fronts.{head_goes_on}
use Rattle.norm_parser.proofs.LinesPassed.{one_passed, left_where_faulty}
use Rattle.norm_parser.proofs.Reading.{kept_on}
use Rattle.norm_parser.proofs.reader.add_head.Goals as goal

pub lines-preserved : goal.lines-preserved
lines-preserved c = record {
  same =
      head_goes_on (draft_shown c.lines.draft) (draft_shown c.read_text_line.new.draft) (past_of c.args.cursor.now)
      (line_shown c.in-Some.next) c.lines.cursor c.pass.new.self c.front_word-word.result.now
      (head_end c.args.cursor.now.lines (past_of c.args.cursor.now))
      c.in-Some.ensures c.pass.ensures (search rules) (search rules) (search rules) c.in_ok-read_text_line.ensures c.lines.invariant.same;
  kept = kept_on (draft_shown c.lines.draft) (draft_shown c.read_text_line.new.draft) (line_shown c.in-Some.next) c.lines.invariant.kept c.in_ok-read_text_line.ensures;
  rest = rest_of_passed c.args.cursor.now c.lines.cursor c.pass.new.self c.lines.invariant.rest c.pass.ensures;
  passed = one_passed c.args.cursor.now c.lines.cursor c.pass.new.self (line_shown c.in-Some.next) c.lines.invariant.passed c.in-Some.ensures c.pass.ensures;
}

pub returns-in_err-read_text_line-clause-left : goal.returns-in_err-read_text_line-clause-left
returns-in_err-read_text_line-clause-left c =
    search (
      rules,
      left_where_faulty c.args.cursor.now c.lines.cursor (line_shown c.in-Some.next) c.in_err-read_text_line.field-0.0 (after_line (draft_shown c.lines.draft) (line_shown c.in-Some.next))
          c.lines.invariant.passed c.in-Some.ensures c.in_err-read_text_line.ensures,
    )
