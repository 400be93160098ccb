-- The lines that are left after a line with a fault.
use Rattle.std.proofs.Common.{◌≡◌, ℕ, suc, ◌+◌, ◌<◌, ◌≤◌, List, [], ◌∷◌, ◌++◌, length, refl, sym, ap, ◌∙◌, arith}
use Rattle.std.proofs.lemmas.List.{length-append}
use Rattle.oa_text.specs.Lines.{TextLine}
use Rattle.line_words.specs.declared.fault.ParseError.{ParseError}
use Rattle.line_words.specs.declared.fault.ParseError.TheVariants as errors
use Rattle.norm_parser.specs.Instruction.{AreFrom, AreLeftOf, AreLeftAt, AreAfter}
use Rattle.norm_parser.specs.FrontRead.{from_line}
use Rattle.norm_parser.proofs.LinesLeft.{number_is, from_next}
use Rattle.norm_parser.proofs.Fronts.{earlier, later}

-- lines of which none stands before a number are all from it on
pub all_from : (n start : ℕ) (lines : List TextLine) → start ≤ n → AreFrom n lines → from_line start lines ≡ lines
all_from n start [] le from = refl
all_from n start (line ∷ lines) le from =
    let k : line.number ≡ n = number_is n line lines (line ∷ lines) refl from in
    let late : start ≤ line.number = omega (arith, k) in
    later start line lines late ∙ ap (λ ls. line ∷ ls) (all_from (n + 1) start lines (omega arith) (from_next n (n + 1) line lines (line ∷ lines) refl refl from))

-- after the line before them all lines are left
pub all_after : (n : ℕ) (lines : List TextLine) → AreFrom (n + 1) lines → lines ≡ from_line (n + 1) lines
all_after n lines from = sym (all_from (n + 1) (n + 1) lines (omega arith) from)

-- the lines from a number on, if the others stand before it
pub from_left : (n m : ℕ) (front left whole : List TextLine) → front ++ left ≡ whole → AreFrom n whole → AreFrom m left → n + length front ≤ m → from_line m whole ≡ left
from_left n m [] left whole is own from le = rw (← is) (all_from m m left (omega arith) from)
from_left n m (line ∷ front) left whole is own from le =
    let k : line.number ≡ n = number_is n line (front ++ left) whole (sym is) own in
    let early : line.number < m = omega (arith, k, le) in
    let more : n + 1 + length front ≤ m = omega (arith, le) in
    ap (from_line m) (sym is) ∙ earlier m line (front ++ left) early
    ∙ from_left (n + 1) m front left (front ++ left) refl (from_next n (n + 1) line (front ++ left) whole refl (sym is) own) from more

-- what is left of lines after a fault's line are those from the next line on
pub left_at : (n : ℕ) (error : ParseError) (whole left : List TextLine) → AreFrom n whole → AreLeftOf whole left → AreAfter (n + length whole) error left
    → AreLeftAt error whole left
left_at n errors.Memory whole left own is after = absurd after
left_at n (errors.Fault fault) whole left own is after =
    let count : length is.front + length left ≡ length whole = sym (length-append is.front left) ∙ ap length is.same in
    sym (from_left n (fault.line + 1) is.front left whole is.same own after.0 (omega (arith, count, after.1)))

-- the first of the lines has a fault
pub after_faulty : (n past number : ℕ) (line : TextLine) (lines rest : List TextLine) → lines ≡ line ∷ rest → AreFrom n lines → n + length lines ≡ past → number ≡ line.number
    → AreFrom (number + 1) rest × (past ≤ number + 1 + length rest)
after_faulty n past number line lines rest is from count same =
    let k : line.number ≡ n = number_is n line rest lines is from in
    let long : length lines ≡ suc (length rest) = ap length is in
    (from_next n (number + 1) line rest lines (ap (λ m. m + 1) (same ∙ k)) is from, omega (arith, k, same, long, count))

-- no line is left
pub after_all : (n past : ℕ) (lines left : List TextLine) → lines ≡ [] → left ≡ [] → n + length lines ≡ past → AreFrom (n + 1) left × (past ≤ n + 1 + length left)
after_all n past lines left none end count =
    let no_line : length lines ≡ 0 = ap length none in
    (rw end refl, omega (arith, no_line, count))

-- the same, if the lines end at the same number
pub after_entry : (past other : ℕ) (error : ParseError) (left : List TextLine) → past ≡ other → AreAfter past error left → AreAfter other error left
after_entry past other error left same after = rw (← same) after
