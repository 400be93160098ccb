-- Lines with their numbers in order, up to the last.
use Rattle.std.proofs.Common.{◌≡◌, ℕ, suc, ◌+◌, ◌≤◌, List, [], ◌∷◌, ◌++◌, length, refl, sym, ap, ◌∙◌, arith, false}
use Rattle.std.specs.Prelude.{nat_lt}
use Rattle.std.proofs.lemmas.Bool.{le-ltb}
use Rattle.oa_text.specs.Lines.{TextLine, lines_of}
use Rattle.norm_parser.specs.Cursors.{LinesLeft, all_lines, IsRestOf}
use Rattle.norm_parser.specs.Instruction.{AreFrom, AreLeftOf}
use Rattle.norm_parser.specs.FrontRead.{from_line}
use Rattle.norm_parser.proofs.LinesLeft.{number_is, from_next}
use Rattle.norm_parser.proofs.CursorLines.{all_ordered, all_past, rest_ordered, rest_past}

-- lines in order, of which the last is the one before this number
pub record AreUpTo (past : ℕ) (lines : List TextLine) : Type 0 where
  pub first : ℕ
  pub ordered : AreFrom first lines
  pub count : first + length lines ≡ past

left_from : (n : ℕ) (front left whole : List TextLine) → front ++ left ≡ whole → AreFrom n whole → (m : ℕ) × AreFrom m left × (m + length left ≡ n + length whole)
left_from n [] left whole same from = (n, rw same from, rw same refl)
left_from n (line ∷ front) left whole same from =
    let rest = left_from (n + 1) front left (front ++ left) refl (from_next n (n + 1) line (front ++ left) whole refl (sym same) from) in
    let more : length whole ≡ suc (length (front ++ left)) = ap length (sym same) in
    (rest.0, rest.1, omega (arith, rest.2, more))

-- and so are those that are left of them
pub left_up_to : (past : ℕ) (whole left : List TextLine) → AreUpTo past whole → AreLeftOf whole left → AreUpTo past left
left_up_to past whole left up is =
    let rest = left_from up.first is.front left whole is.same up.ordered in
    record { first = rest.0; ordered = rest.1; count = rest.2 ∙ up.count }

-- and so are those that a cursor has left of an input
pub rest_up_to : (bytes : List ℕ) (left : LinesLeft) → IsRestOf (all_lines bytes) left → AreUpTo (length (lines_of bytes) + 1) left.lines
rest_up_to bytes left is =
    record {
      first = left.number;
      ordered = rest_ordered (all_lines bytes) left (all_ordered bytes (all_lines bytes) refl) is;
      count = rest_past (all_lines bytes) left is ∙ all_past bytes (all_lines bytes) refl;
    }

-- lines of which none stands before a number are all from it on
pub all_left : (n start : ℕ) (lines : List TextLine) → start ≤ n → AreFrom n lines → from_line start lines ≡ lines
all_left n start [] le from = refl
all_left n start (line ∷ lines) le from =
    let k : line.number ≡ n = number_is n line lines (line ∷ lines) refl from in
    let e : nat_lt line.number start ≡ false = rw k (le-ltb n start le) in
    rw e (ap (λ ls. line ∷ ls) (all_left (n + 1) start lines (omega arith) (from_next n (n + 1) line lines (line ∷ lines) refl refl from)))

-- if there is no line, the lines are from any number on
pub nothing_left : (n : ℕ) (lines : List TextLine) → lines ≡ [] → AreFrom n lines
nothing_left n lines none = rw none refl

-- what the first line's number says of the others
pub behind_line : (past : ℕ) (line : TextLine) (lines whole : List TextLine) → whole ≡ line ∷ lines → AreUpTo past whole
    → AreFrom (line.number + 1) lines × (line.number + 1 + length lines ≡ past)
behind_line past line lines whole is up =
    let k : line.number ≡ up.first = number_is up.first line lines whole is up.ordered in
    let long : length whole ≡ suc (length lines) = ap length is in
    (from_next up.first (line.number + 1) line lines whole (ap (λ n. n + 1) k) is up.ordered, omega (arith, k, up.count, long))
