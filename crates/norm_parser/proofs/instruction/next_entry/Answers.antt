use Rattle.std.proofs.Common.{rules, ◌≡◌, ◌∷◌, ◌+◌, length, None, Ok, refl, ap, arith}
use Rattle.std.specs.Prelude.{[]}
use Rattle.oa_text.specs.Shown.{line_shown}
use Rattle.norm_parser.specs.Instruction.{entry_of}
use Rattle.norm_parser.proofs.LinesLeft.{from_next, left_next, entry_passed}
use Rattle.norm_parser.proofs.LinesAfter.{after_faulty, after_all}
use Rattle.norm_parser.proofs.instruction.next_entry.Goals as goal

pub returns-in-Err-clause-left : goal.returns-in-Err-clause-left
returns-in-Err-clause-left c =
    let taken : c.lines.rest ≡ line_shown c.in-Some.line ∷ c.next.new.self = search rules in
    left_next c.args.rest.now c.lines.rest c.next.new.self (line_shown c.in-Some.line) c.lines.invariant.left taken

pub returns-in-Err-clause-fault : goal.returns-in-Err-clause-fault
returns-in-Err-clause-fault c =
    let taken : c.lines.rest ≡ line_shown c.in-Some.line ∷ c.next.new.self = search rules in
    let number : c.number.result ≡ (line_shown c.in-Some.line).number = search rules in
    rw c.at.ensures (after_faulty c.lines.next (c.args.next.now + length c.args.rest.now) c.number.result (line_shown c.in-Some.line) c.lines.rest c.next.new.self taken c.lines.invariant.ordered c.lines.invariant.past number)

pub returns-clause-fault : goal.returns-clause-fault
returns-clause-fault c =
    let none : c.lines.rest ≡ [] = search rules in
    let end : c.next.new.self ≡ [] = search rules in
    rw c.at-2.ensures (after_all c.lines.next (c.args.next.now + length c.args.rest.now) c.lines.rest c.next.new.self none end c.lines.invariant.past)

pub lines-preserved : goal.lines-preserved
lines-preserved c =
    let taken : c.lines.rest ≡ line_shown c.in-Some.line ∷ c.next.new.self = search rules in
    let skipped : entry_of c.args.fields.now c.args.roots.now (line_shown c.in-Some.line) ≡ Ok None = search rules in
    record {
      same = entry_passed c.args.fields.now c.args.roots.now (c.args.next.now + length c.args.rest.now) (line_shown c.in-Some.line) c.next.new.self c.lines.rest _ taken skipped c.lines.invariant.same;
      ordered = from_next c.lines.next (c.lines.next + 1) (line_shown c.in-Some.line) c.next.new.self c.lines.rest refl taken c.lines.invariant.ordered;
      past = omega (arith, ap length taken, c.lines.invariant.past);
      left = left_next c.args.rest.now c.lines.rest c.next.new.self (line_shown c.in-Some.line) c.lines.invariant.left taken;
    }

pub returns-in-Ok-Some-clause-entry : goal.returns-in-Ok-Some-clause-entry
returns-in-Ok-Some-clause-entry c = search rules

pub returns-in-Ok-Some-clause-ordered : goal.returns-in-Ok-Some-clause-ordered
returns-in-Ok-Some-clause-ordered c =
    let taken : c.lines.rest ≡ line_shown c.in-Some.line ∷ c.next.new.self = search rules in
    from_next c.lines.next (c.lines.next + 1) (line_shown c.in-Some.line) c.next.new.self c.lines.rest refl taken c.lines.invariant.ordered

pub returns-in-Ok-Some-clause-past : goal.returns-in-Ok-Some-clause-past
returns-in-Ok-Some-clause-past c =
    let taken : c.lines.rest ≡ line_shown c.in-Some.line ∷ c.next.new.self = search rules in
    omega (arith, ap length taken, c.lines.invariant.past)

pub returns-in-Ok-Some-clause-left : goal.returns-in-Ok-Some-clause-left
returns-in-Ok-Some-clause-left c =
    let taken : c.lines.rest ≡ line_shown c.in-Some.line ∷ c.next.new.self = search rules in
    left_next c.args.rest.now c.lines.rest c.next.new.self (line_shown c.in-Some.line) c.lines.invariant.left taken

pub returns-in-Err-clause-ordered : goal.returns-in-Err-clause-ordered
returns-in-Err-clause-ordered c =
    let taken : c.lines.rest ≡ line_shown c.in-Some.line ∷ c.next.new.self = search rules in
    from_next c.lines.next (c.lines.next + 1) (line_shown c.in-Some.line) c.next.new.self c.lines.rest refl taken c.lines.invariant.ordered

pub returns-in-Err-clause-past : goal.returns-in-Err-clause-past
returns-in-Err-clause-past c =
    let taken : c.lines.rest ≡ line_shown c.in-Some.line ∷ c.next.new.self = search rules in
    omega (arith, ap length taken, c.lines.invariant.past)
