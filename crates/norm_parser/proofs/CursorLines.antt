-- The lines that a cursor has left.
use Rattle.std.proofs.Common.{◌≡◌, ℕ, ◌+◌, ◌<◌, ◌≤◌, ◌^◌, List, [], ◌∷◌, ◌++◌, length, refl, sym, ap, ◌∙◌, append_assoc, arith}
use Rattle.std.specs.Prelude.{Result, Option, Some, None, MatchOption, option_map}
use Rattle.std.proofs.lemmas.List.{length-append}
use Rattle.oa_text.specs.declared.line.Line.{Line}
use Rattle.oa_text.specs.Lines.{TextLine, lines_of, numbered}
use Rattle.oa_text.specs.Shown.{line_shown}
use Rattle.norm_parser.specs.Instruction.{AreFrom}
use Rattle.norm_lang.specs.declared.text.Text.{Text}
use Rattle.norm_lang.specs.declared.text.Version.{Version}
use Rattle.norm_lang.specs.Faults.{LineFault}
use Rattle.norm_parser.specs.declared.head.Head.{Head}
use Rattle.norm_parser.specs.Version.{after_version, after_second_version}
use Rattle.norm_parser.specs.FrontRead.{from_line, front_in, front_read, head_in, head_read}
use Rattle.norm_parser.specs.Cursors.{LinesLeft, all_lines, past_of, rest_in, rest_of, IsRestOf, with_next, IsLast}
use Rattle.norm_parser.proofs.LinesLeft.{from_next, numbered_from, first_from}
use Rattle.norm_parser.proofs.LinesAfter.{from_left}
use Rattle.norm_parser.proofs.Reading.{past_first}

-- the line that is looked at stands before the others
pub all_stand : (taken : Option Line) (before after : List TextLine) → MatchOption taken ((before ≡ []) × (after ≡ [])) (λ line. before ≡ line_shown line ∷ after)
    → with_next (option_map line_shown taken) after ≡ before
all_stand None before after is = is.1 ∙ sym is.0
all_stand (Some line) before after is = sym is

pub none_behind : (taken : Option Line) (before after : List TextLine) → MatchOption taken ((before ≡ []) × (after ≡ [])) (λ line. before ≡ line_shown line ∷ after)
    → IsLast (option_map line_shown taken) after
none_behind None before after is = is.1
none_behind (Some line) before after is = tt

-- the lines of an input are numbered from 1, and each number fits
pub is_from_first : {L : Type 0} (lines : List (List ℕ)) (all : List TextLine) → all ≡ numbered 1 lines → length lines + 1 < 2 ^ 32 → L
    → (1 ≤ 1) × (1 + length all < 2 ^ 32) × AreFrom 1 all × L
is_from_first lines all same few last =
    let count = past_first lines all same in
    (omega arith, omega (arith, count, few), first_from lines all same, last)

-- ---- what is left of lines after some were taken

pub rest_of_all : (whole : LinesLeft) → IsRestOf whole whole
rest_of_all whole = record { taken = []; same = refl; count = omega arith }

-- the next line is passed over, if there is one
rest_in_passed : (whole : LinesLeft) (number : ℕ) (lines : List TextLine) → IsRestOf whole (record { number = number; lines = lines }) → IsRestOf whole (rest_in number lines)
rest_in_passed whole number [] is = is
rest_in_passed whole number (line ∷ lines) is =
    record {
      taken = is.taken ++ line ∷ [];
      same = append_assoc is.taken (line ∷ []) lines ∙ is.same;
      count = let more = length-append is.taken (line ∷ []) in omega (arith, more, is.count);
    }

pub rest_of_passed : (whole left next : LinesLeft) → IsRestOf whole left → next ≡ rest_of left → IsRestOf whole next
rest_of_passed whole left next is same = rw same (rest_in_passed whole left.number left.lines is)

pub rest_of_rest : (whole middle left : LinesLeft) → IsRestOf whole middle → IsRestOf middle left → IsRestOf whole left
rest_of_rest whole middle left a b =
    record {
      taken = a.taken ++ b.taken;
      same = append_assoc a.taken b.taken left.lines ∙ ap (λ ls. a.taken ++ ls) b.same ∙ a.same;
      count = let both = length-append a.taken b.taken in omega (arith, both, a.count, b.count);
    }

from_taken : (n : ℕ) (taken left whole : List TextLine) → taken ++ left ≡ whole → AreFrom n whole → AreFrom (n + length taken) left
from_taken n [] left whole same from = let e : n + 0 ≡ n = omega arith in rw (e, same) from
from_taken n (line ∷ taken) left whole same from =
    let e : n + length (line ∷ taken) ≡ n + 1 + length taken = omega arith in
    rw e (from_taken (n + 1) taken left (taken ++ left) refl (from_next n (n + 1) line (taken ++ left) whole refl (sym same) from))

-- lines that are left keep their numbers
pub rest_ordered : (whole left : LinesLeft) → AreFrom whole.number whole.lines → IsRestOf whole left → AreFrom left.number left.lines
rest_ordered whole left from is = rw (← is.count) (from_taken whole.number is.taken left.lines whole.lines is.same from)

-- no line that is left was taken, and each other was
pub rest_from : (whole left : LinesLeft) → AreFrom whole.number whole.lines → IsRestOf whole left → from_line left.number whole.lines ≡ left.lines
rest_from whole left from is =
    from_left whole.number left.number is.taken left.lines whole.lines is.same from (rest_ordered whole left from is) (omega (arith, is.count))

-- the last line stays the last
pub rest_past : (whole left : LinesLeft) → IsRestOf whole left → past_of left ≡ past_of whole
rest_past whole left is =
    let count : length is.taken + length left.lines ≡ length whole.lines = sym (length-append is.taken left.lines) ∙ ap length is.same in
    omega (arith, count, is.count)

pub all_ordered : (bytes : List ℕ) (all : LinesLeft) → all ≡ all_lines bytes → AreFrom all.number all.lines
all_ordered bytes all same = rw same (numbered_from 1 (lines_of bytes))

pub all_past : (bytes : List ℕ) (all : LinesLeft) → all ≡ all_lines bytes → past_of all ≡ length (lines_of bytes) + 1
all_past bytes all same = rw same (past_first (lines_of bytes) (numbered 1 (lines_of bytes)) refl)

-- what is left of an input are its lines from a number on
pub input_from : (bytes : List ℕ) (all left : LinesLeft) → all ≡ all_lines bytes → IsRestOf all left → from_line left.number (numbered 1 (lines_of bytes)) ≡ left.lines
input_from bytes all left same is = ap (λ (ls : LinesLeft). from_line left.number ls.lines) (sym same) ∙ rest_from all left (all_ordered bytes all same) is

-- ---- what is read of an input by a cursor in turn is what is read of its lines from a number on

pub version_read : (name bytes : List ℕ) (all : LinesLeft) (read : Result (ℕ × Version) LineFault) → all ≡ all_lines bytes
    → after_version name (past_of all) all.lines ≡ read → after_version name (length (lines_of bytes) + 1) (numbered 1 (lines_of bytes)) ≡ read
version_read name bytes all read same so_far =
    ap (λ past. after_version name past (numbered 1 (lines_of bytes))) (sym (all_past bytes all same))
    ∙ ap (λ (ls : LinesLeft). after_version name (past_of all) ls.lines) (sym same) ∙ so_far

pub second_version_read : (name bytes : List ℕ) (all : LinesLeft) (read : Result ℕ LineFault) → all ≡ all_lines bytes
    → after_second_version name (past_of all) all.lines ≡ read → after_second_version name (length (lines_of bytes) + 1) (numbered 1 (lines_of bytes)) ≡ read
second_version_read name bytes all read same so_far =
    ap (λ past. after_second_version name past (numbered 1 (lines_of bytes))) (sym (all_past bytes all same))
    ∙ ap (λ (ls : LinesLeft). after_second_version name (past_of all) ls.lines) (sym same) ∙ so_far

left_past : (bytes : List ℕ) (all left : LinesLeft) → all ≡ all_lines bytes → IsRestOf all left → length (lines_of bytes) + 1 ≡ past_of left
left_past bytes all left same is = sym (rest_past all left is ∙ all_past bytes all same)

pub front_is_read : (bytes : List ℕ) (all left : LinesLeft) (version : Version) (read : Result (Text × ℕ) LineFault) → all ≡ all_lines bytes → IsRestOf all left
    → front_in version left.lines (past_of left) ≡ read → front_read version bytes left.number ≡ read
front_is_read bytes all left version read same is so_far =
    ap (front_in version (from_line left.number (numbered 1 (lines_of bytes)))) (left_past bytes all left same is)
    ∙ ap (λ lines. front_in version lines (past_of left)) (input_from bytes all left same is) ∙ so_far

pub head_is_read : (bytes : List ℕ) (all left : LinesLeft) (read : Result (Head × ℕ) LineFault) → all ≡ all_lines bytes → IsRestOf all left
    → head_in left.lines (past_of left) ≡ read → head_read bytes left.number ≡ read
head_is_read bytes all left read same is so_far =
    ap (head_in (from_line left.number (numbered 1 (lines_of bytes)))) (left_past bytes all left same is)
    ∙ ap (λ lines. head_in lines (past_of left)) (input_from bytes all left same is) ∙ so_far

-- ---- lines are passed over up to a number

-- those before it are gone, and what is left is numbered from it on
pub record IsPassed (whole left : LinesLeft) (number : ℕ) : Type 0 where
  pub rest : IsRestOf whole left
  pub reached : left.number ≤ number
  pub ordered : AreFrom number left.lines

ordered_passed : (n number : ℕ) (lines : List TextLine) → AreFrom number lines → AreFrom (number + 1) (rest_in n lines).lines
ordered_passed n number [] from = refl
ordered_passed n number (line ∷ lines) from = from_next number (number + 1) line lines (line ∷ lines) refl refl from

number_passed : (n : ℕ) (lines : List TextLine) → (rest_in n lines).number ≤ n + 1
number_passed n [] = omega arith
number_passed n (line ∷ lines) = omega arith

pub passed_one : (whole left next : LinesLeft) (number : ℕ) → IsPassed whole left number → next ≡ rest_of left → IsPassed whole next (number + 1)
passed_one whole left next number is same =
    record {
      rest = rest_of_passed whole left next is.rest same;
      reached = let few = number_passed left.number left.lines in let e : next.number ≡ (rest_of left).number = ap (λ (ls : LinesLeft). ls.number) same in omega (arith, few, is.reached, e);
      ordered = rw same (ordered_passed left.number number left.lines is.ordered);
    }

-- then those from it on are left
pub passed_from : (bytes : List ℕ) (all left : LinesLeft) (number : ℕ) → all ≡ all_lines bytes → IsPassed all left number → left.lines ≡ from_line number (numbered 1 (lines_of bytes))
passed_from bytes all left number same is =
    sym (ap (λ (ls : LinesLeft). from_line number ls.lines) (sym same)
    ∙ from_left all.number number is.rest.taken left.lines all.lines is.rest.same (all_ordered bytes all same) is.ordered (omega (arith, is.rest.count, is.reached)))

pub passed_past : (bytes : List ℕ) (all left : LinesLeft) (number : ℕ) → all ≡ all_lines bytes → IsPassed all left number → past_of left ≡ length (lines_of bytes) + 1
passed_past bytes all left number same is = rest_past all left is.rest ∙ all_past bytes all same
