-- The lines that a cursor has left, by their numbers, whatever the lines before them were.
use Rattle.std.specs.Prelude.{Result, Ok, Err}
use Rattle.std.proofs.Common.{◌≡◌, ℕ, ◌+◌, ◌-◌, ◌<◌, ◌≤◌, List, [], ◌∷◌, refl, sym, ap, ◌∙◌, arith}
use Rattle.oa_text.specs.Lines.{TextLine}
use Rattle.line_words.specs.declared.fault.Fault.{Fault}
use Rattle.line_words.specs.declared.fault.Stop.TheVariants as stops
use Rattle.line_words.specs.declared.fault.ParseError.{ParseError}
use Rattle.line_words.specs.declared.fault.ParseError.TheVariants as errors
use Rattle.line_words.specs.Faults.{stopped_at}
use Rattle.norm_lang.specs.Faults.{LineFault, at_line}
use Rattle.line_words.specs.declared.fault.ParseFault.{ParseFault}
use Rattle.line_words.specs.Answered.{Fails}
use Rattle.norm_lang.specs.Grammar.{Draft}
use Rattle.norm_parser.specs.FaultShown.{fault_shown}
use Rattle.norm_parser.specs.Cursors.{LinesLeft, rest_in, rest_of, StandsNext, AreTheLater, AreLeftFrom}
use Rattle.norm_parser.specs.Instruction.{AreFrom, AreLeftAt}
use Rattle.norm_parser.specs.FrontRead.{from_line, end_at}
use Rattle.norm_parser.proofs.LinesLeft.{from_next}
use Rattle.norm_parser.proofs.LinesAfter.{all_from}
use Rattle.norm_parser.proofs.Fronts.{earlier}

-- the lines that were taken stand before what is left
pub record ArePassed (whole left : LinesLeft) : Type 0 where
  pub later : (n : ℕ) → left.number ≤ n → from_line n whole.lines ≡ from_line n left.lines

pub none_passed : (whole : LinesLeft) → ArePassed whole whole
none_passed whole = record { later = λ n le. refl }

next_number : (line : TextLine) (left next : LinesLeft) → StandsNext line left → next ≡ rest_of left → next.number ≡ left.number + 1
next_number line left next stands taken = ap (λ (ls : LinesLeft). ls.number) taken ∙ go left.lines stands.first
  where
    go : (lines : List TextLine) → lines ≡ line ∷ (rest_of left).lines → (rest_in left.number lines).number ≡ left.number + 1
    go [] is = absurd (let f : ⊥ = cc in f)
    go (first ∷ lines) is = refl

pub one_passed : (whole left next : LinesLeft) (line : TextLine) → ArePassed whole left → StandsNext line left → next ≡ rest_of left → ArePassed whole next
one_passed whole left next line passed stands taken =
    let k : next.number ≡ left.number + 1 = next_number line left next stands taken in
    record {
      later = λ n le.
          let early : line.number < n = omega (arith, k, stands.number, le) in
          passed.later n (omega (arith, k, le)) ∙ ap (from_line n) stands.first ∙ earlier n line (rest_of left).lines early ∙ ap (λ (ls : LinesLeft). from_line n ls.lines) (sym taken);
    }

-- what is left are the later lines
pub later_here : (whole left : LinesLeft) (line : TextLine) → ArePassed whole left → StandsNext line left → AreTheLater whole left
later_here whole left line passed stands = sym (passed.later left.number (omega arith) ∙ all_from left.number left.number left.lines (omega arith) stands.ordered)

pub later_over : (whole left : LinesLeft) → ArePassed whole left → left.lines ≡ [] → AreTheLater whole left
later_over whole left passed none = none ∙ sym (passed.later left.number (omega arith) ∙ ap (from_line left.number) none)

pub later_next : (whole left next : LinesLeft) (line : TextLine) → ArePassed whole left → StandsNext line left → next ≡ rest_of left → AreTheLater whole next
later_next whole left next line passed stands taken =
    let k : next.number ≡ left.number + 1 = next_number line left next stands taken in
    let is : left.lines ≡ line ∷ next.lines = stands.first ∙ ap (λ (ls : LinesLeft). line ∷ ls.lines) (sym taken) in
    let own : AreFrom next.number next.lines = from_next left.number next.number line next.lines left.lines k is stands.ordered in
    sym ((one_passed whole left next line passed stands taken).later next.number (omega arith) ∙ all_from next.number next.number next.lines (omega arith) own)

-- the next line is taken, and it has a fault
pub left_faulty : (whole left next : LinesLeft) (line : TextLine) (number : ℕ) (fault : Fault) (error : ParseError) → ArePassed whole left → StandsNext line left → next ≡ rest_of left
    → number ≡ line.number → error ≡ stopped_at number (stops.Fault fault) → AreLeftAt error whole.lines next.lines
left_faulty whole left next line number fault error passed stands taken same is =
    let k : next.number ≡ left.number + 1 = next_number line left next stands taken in
    let e : number + 1 ≡ next.number = omega (arith, k, same, stands.number) in
    rw (is, e) (later_next whole left next line passed stands taken)

-- no line is left, and a further one must follow
pub left_over : (whole left next : LinesLeft) (number : ℕ) (fault : Fault) (error : ParseError) → ArePassed whole left → left.lines ≡ [] → next ≡ rest_of left
    → number ≡ next.number → error ≡ stopped_at number (stops.Fault fault) → AreLeftAt error whole.lines next.lines
left_over whole left next number fault error passed none taken same is =
    let next_is : next ≡ rest_in left.number [] = taken ∙ ap (rest_in left.number) none in
    let n : next.number ≡ left.number = ap (λ (ls : LinesLeft). ls.number) next_is in
    let ends : next.lines ≡ [] = ap (λ (ls : LinesLeft). ls.lines) next_is in
    rw is (ends ∙ sym (passed.later (number + 1) (omega (arith, n, same)) ∙ ap (from_line (number + 1)) none))

pub later_after : (whole left next : LinesLeft) → ArePassed whole left → left.lines ≡ [] → next ≡ rest_of left → AreTheLater whole next
later_after whole left next passed none taken =
    let next_is : next ≡ rest_in left.number [] = taken ∙ ap (rest_in left.number) none in
    let n : next.number ≡ left.number = ap (λ (ls : LinesLeft). ls.number) next_is in
    let ends : next.lines ≡ [] = ap (λ (ls : LinesLeft). ls.lines) next_is in
    ends ∙ sym (passed.later next.number (omega (arith, n)) ∙ ap (from_line next.number) none)

-- the line before those that are left has a fault
pub left_before : (whole left : LinesLeft) (past : ℕ) (fault : Fault) (error : ParseError) → AreTheLater whole left → past ≡ left.number → 1 ≤ past
    → error ≡ stopped_at (past - 1) (stops.Fault fault) → AreLeftAt error whole.lines left.lines
left_before whole left past fault error later same counted is =
    let e : past - 1 + 1 ≡ left.number = omega (arith, same, counted) in
    rw (is, e) later

-- the line of a fault, or another
abbrev line_or : ℕ → Result Draft LineFault → ℕ
line_or other (Ok draft) = other
line_or other (Err fault) = fault.line

-- the next line has a fault, and stays
pub left_where_faulty : (whole left : LinesLeft) (line : TextLine) (error : ParseError) (read : Result Draft ℕ) → ArePassed whole left → StandsNext line left
    → Fails error (at_line line.number read) → AreLeftFrom error whole.lines left.lines
left_where_faulty whole left line errors.Memory read passed stands fails = tt
left_where_faulty whole left line (errors.Fault fault) (Ok draft) passed stands fails = absurd (let f : ⊥ = cc in f)
left_where_faulty whole left line (errors.Fault fault) (Err number) passed stands fails =
    let e : line.number ≡ fault.line = ap (line_or 0) fails in
    rw (sym e ∙ stands.number) (later_here whole left line passed stands)

-- the fault stands where lines end
pub left_at_end : (whole left : LinesLeft) (past : ℕ) (fault : ParseFault) → AreTheLater whole left → (end_at left.lines past).line ≡ left.number
    → fault_shown fault ≡ end_at left.lines past → AreLeftFrom (errors.Fault fault) whole.lines left.lines
left_at_end whole left past fault later ends shown =
    let e : fault.line ≡ left.number = ap (λ (f : LineFault). f.line) shown ∙ ends in
    rw e later
