use Rattle.std.proofs.Common.{rules, ◌≡◌}
use Rattle.oa_text.specs.Shown.{line_shown}
use Rattle.norm_parser.proofs.LinesAfter.{all_after}
use Rattle.norm_parser.proofs.instruction.parse_instr.Goals as goal

pub returns-in-Err-clause-fault : goal.returns-in-Err-clause-fault
returns-in-Err-clause-fault c =
    let number : c.number-number.result ≡ (line_shown c.args.first).number = search rules in
    rw (c.at.ensures, number) (all_after (line_shown c.args.first).number c.args.rest.now c.requires.behind)
