use Rattle.std.proofs.Common.{◌∙◌}
use Rattle.oa_text.specs.Lines.{lines_of, numbered}
use Rattle.norm_parser.specs.DraftShown.{draft_shown}
use Rattle.norm_parser.proofs.CursorLines.{all_past}
use Rattle.norm_parser.proofs.Reading.{all_read, text_is_within, text_fails}
use Rattle.norm_parser.proofs.reader.parse.Goals as goal

pub returns-in-Ok-clause-within : goal.returns-in-Ok-clause-within
returns-in-Ok-clause-within c =
    text_is_within (numbered 1 (lines_of c.args.input.now)) (draft_shown c.in_ok-draft.draft) c.in-Ok.text
    (all_read c.args.input.now c.new-cursor.result _ c.new-cursor.ensures c.in_ok-draft.ensures.lines) c.in-Ok.ensures

pub returns-in-Err-clause-exact : goal.returns-in-Err-clause-exact
returns-in-Err-clause-exact c =
    text_fails c.args.input.now c.number.result (draft_shown c.in_ok-draft.draft) c.in-Err.stop c.at.result
    (all_read c.args.input.now c.new-cursor.result _ c.new-cursor.ensures c.in_ok-draft.ensures.lines)
    (c.number.ensures.same ∙ c.in_ok-draft.ensures.past ∙ all_past c.args.input.now c.new-cursor.result c.new-cursor.ensures) c.at.ensures c.in-Err.ensures
