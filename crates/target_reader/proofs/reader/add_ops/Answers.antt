use Rattle.std.proofs.Common.{◌≡◌, ◌∷◌, ◌+◌, length, refl, ap}
use Rattle.std.specs.Prelude.{option_map}
use Rattle.oa_text.specs.Lines.{lines_of}
use Rattle.oa_text.specs.Shown.{line_shown}
use Rattle.norm_parser.specs.Cursors.{with_next}
use Rattle.norm_parser.proofs.CursorLines.{all_stand, none_behind}
use Rattle.target_reader.specs.TargetGrammar.{no_ops, ops_read}
use Rattle.target_reader.specs.OpsShown.{draft_shown}
use Rattle.target_reader.proofs.Ordered.{rest_up_to}
use Rattle.target_reader.proofs.Reading.{ops_next}
use Rattle.target_reader.proofs.reader.add_ops.Goals as goal

pub lines-init : goal.lines-init
lines-init c =
    let all : with_next (option_map line_shown c.split-rest.result.0) c.split-rest.result.1 ≡ c.args.cursor.lines = all_stand c.split-rest.result.0 c.args.cursor.lines c.split-rest.result.1 c.split-rest.ensures in
    record {
      same = rw (all, c.requires.none) refl;
      ordered = rw all (rest_up_to c.args.input.now c.args.cursor c.requires.rest);
      last = none_behind c.split-rest.result.0 c.args.cursor.lines c.split-rest.result.1 c.split-rest.ensures;
    }

pub lines-preserved : goal.lines-preserved
lines-preserved c =
    let here : with_next (option_map line_shown c.lines.next) c.lines.rest ≡ line_shown c.in-Some.line ∷ c.lines.rest = ap (λ next. with_next (option_map line_shown next) c.lines.rest) c.in-Some.is in
    let on =
    ops_next c.args.head.now.kinds c.args.head.now.fields c.args.head.now.roots (length (lines_of c.args.input.now) + 1) (draft_shown c.lines.draft) (draft_shown c.read_op_line.new.draft) (line_shown c.in-Some.line)
    c.next-next.result c.lines.rest (with_next (option_map line_shown c.lines.next) c.lines.rest) c.read_op_line.new.rest c.next-next.new.self
    (ops_read c.args.head.now.kinds c.args.head.now.fields c.args.head.now.roots (length (lines_of c.args.input.now) + 1) no_ops c.args.cursor.lines)
    here c.lines.invariant.ordered c.in_ok-read_op_line.ensures.goes c.in_ok-read_op_line.ensures.left c.next-next.ensures.steps c.lines.invariant.same in
    record { same = on.0; ordered = on.1; last = on.2 }
