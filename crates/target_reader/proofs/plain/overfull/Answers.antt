use Rattle.std.proofs.Common.{sym, ◌∙◌}
use Rattle.oa_text.specs.Shown.{line_shown}
use Rattle.target_reader.proofs.Plains.{read_alone, faulty_alone, other_alone}
use Rattle.target_reader.proofs.plain.overfull.Goals as goal

pub returns-then-fault-number : goal.returns-then-fault-number
returns-then-fault-number c =
    faulty_alone c.args.head.now.kinds c.args.head.now.fields c.args.head.now.roots (line_shown c.args.line) record { line = c.in-Err-Fault.fault.line; number = c.in-Err-Fault.fault.number } (rw c.in-Err-Fault.field-0-is at c.in-Err-Fault.ensures)
    (c.if-fault-number.true ∙ c.number-number.ensures)

pub returns-else-fault-number : goal.returns-else-fault-number
returns-else-fault-number c =
    rw (c.at.ensures, c.number-number.ensures)
    (other_alone c.args.head.now.kinds c.args.head.now.fields c.args.head.now.roots (line_shown c.args.line) record { line = c.in-Err-Fault.fault.line; number = c.in-Err-Fault.fault.number } (rw c.in-Err-Fault.field-0-is at c.in-Err-Fault.ensures)
    (λ same. c.if-fault-number.false (same ∙ sym c.number-number.ensures)))

pub returns-in-Ok : goal.returns-in-Ok
returns-in-Ok c = rw (c.at-in-Ok.ensures, c.number-number.ensures) (read_alone c.args.head.now.kinds c.args.head.now.fields c.args.head.now.roots (line_shown c.args.line) c.in-Ok.ensures)
