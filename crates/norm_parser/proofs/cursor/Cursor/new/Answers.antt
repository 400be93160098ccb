use Rattle.std.proofs.Common.{◌≡◌, refl, ◌∙◌}
use Rattle.std.specs.Prelude.{option_map}
use Rattle.oa_text.specs.Lines.{lines_of, numbered}
use Rattle.oa_text.specs.Shown.{line_shown}
use Rattle.norm_parser.specs.Cursors.{with_next}
use Rattle.norm_parser.proofs.CursorLines.{all_stand, none_behind, is_from_first}
use Rattle.norm_parser.proofs.cursor.Cursor.new.Goals as goal

pub invariant_of-result : goal.invariant_of-result
invariant_of-result c =
    let all : with_next (option_map line_shown c.next-next.result) c.next-next.new.self ≡ numbered 1 (lines_of c.args.input.now) = all_stand c.next-next.result c.lines-behind.result c.next-next.new.self c.next-next.ensures.steps ∙ c.lines-behind.ensures in
    is_from_first (lines_of c.args.input.now) _ all c.requires (none_behind c.next-next.result c.lines-behind.result c.next-next.new.self c.next-next.ensures.steps)

pub returns : goal.returns
returns c =
    let all : with_next (option_map line_shown c.next-next.result) c.next-next.new.self ≡ numbered 1 (lines_of c.args.input.now) = all_stand c.next-next.result c.lines-behind.result c.next-next.new.self c.next-next.ensures.steps ∙ c.lines-behind.ensures in
    rw all refl
