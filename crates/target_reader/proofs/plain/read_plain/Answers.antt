use Rattle.std.proofs.Common.{rules, ◌+◌, length, refl}
use Rattle.std.proofs.lemmas.Result.{err_from_is_err_and}
use Rattle.oa_text.specs.Shown.{line_shown}
use Rattle.target_reader.specs.OpsShown.{draft_shown}
use Rattle.target_reader.proofs.Plains.{full_fails, plain_fails, plain_fifth, plain_added}
use Rattle.target_reader.proofs.plain.read_plain.Goals as goal

pub returns-then-not-has_place-clause-goes : goal.returns-then-not-has_place-clause-goes
returns-then-not-has_place-clause-goes c =
    full_fails c.args.head.now.kinds c.args.head.now.fields c.args.head.now.roots (c.args.line.number + 1 + length c.args.rest.now) (draft_shown c.args.draft.now) (line_shown c.args.line) c.args.rest.now c.overfull.result
    refl c.requires.plain (search rules) c.overfull.ensures

pub returns-in_err-instr-clause-goes : goal.returns-in_err-instr-clause-goes
returns-in_err-instr-clause-goes c =
    let p = err_from_is_err_and c.from_residual.result c.from_residual.ensures.1 in
    rw (p.1, p.2)
    (plain_fails c.args.head.now.kinds c.args.head.now.fields c.args.head.now.roots (c.args.line.number + 1 + length c.args.rest.now) (draft_shown c.args.draft.now) (line_shown c.args.line) c.args.rest.now c.in_err-instr.field-0.0
    refl c.requires.plain (search rules) refl c.in_err-instr.ensures.instr)

pub returns-then-is_fifth-clause-goes : goal.returns-then-is_fifth-clause-goes
returns-then-is_fifth-clause-goes c =
    rw (c.at.ensures, c.number-number.ensures)
    (plain_fifth c.args.head.now.kinds c.args.head.now.fields c.args.head.now.roots (c.args.line.number + 1 + length c.args.rest.now) (draft_shown c.args.draft.now) (line_shown c.args.line) c.args.rest.now c.parse_instr.new.rest c.in_ok-instr.instr
    refl c.requires.plain (search rules) refl c.in_ok-instr.ensures.instr (search rules))

pub returns-clause-goes : goal.returns-clause-goes
returns-clause-goes c =
    plain_added c.args.head.now.kinds c.args.head.now.fields c.args.head.now.roots (c.args.line.number + 1 + length c.args.rest.now) (draft_shown c.args.draft.now) (draft_shown c.add_instr.new.self) (line_shown c.args.line) c.args.rest.now c.parse_instr.new.rest c.in_ok-instr.instr
    refl c.requires.plain (search rules) refl c.in_ok-instr.ensures.instr (search rules) (search rules)
