use Rattle.std.proofs.Common.{rules, ◌≡◌}
use Rattle.oa_text.specs.Shown.{line_shown}
use Rattle.norm_parser.proofs.LinesPassed.{left_faulty}
use Rattle.norm_parser.proofs.version.read_version.Goals as goal

pub returns-in-Err-clause-left : goal.returns-in-Err-clause-left
returns-in-Err-clause-left c =
    let number : c.number.result ≡ (line_shown c.in-Some.line).number = search rules in
    left_faulty c.args.cursor.now c.lines.cursor c.take.new.self (line_shown c.in-Some.line) c.number.result c.in-Err.fault c.at.result
    c.lines.invariant.passed c.in-Some.ensures.line c.take.ensures.rest number c.at.ensures
