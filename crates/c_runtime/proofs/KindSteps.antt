-- The lines of the kinds, one kind after another.
use Rattle.std.proofs.Common.{◌≡◌, ℕ, suc, ◌+◌, ◌-◌, ◌≤◌, ◌<◌, List, [], ◌∷◌, ◌++◌, sym, ◌∙◌, ap, arith}
use Rattle.std.proofs.lemmas.List.{append_assoc, append-nil}
use Rattle.c_language.specs.declared.lines.Parameter.TheVariants.{FirstSlot}
use Rattle.c_language.specs.declared.lines.Operand.TheVariants.{Number, Local, Of}
use Rattle.c_language.specs.declared.lines.Value.TheVariants as values
use Rattle.c_language.specs.declared.lines.Test.TheVariants as tests
use Rattle.c_language.specs.declared.lines.Line.{Line}
use Rattle.c_language.specs.declared.lines.Line.TheVariants as lines
use Rattle.c_runtime.specs.KindLines.{kind_lines, kind_jump}

pub jump_on : (push t n : ℕ) → t + 1 < n → lines.If (tests.Less (Local 2) (Of (FirstSlot (t + 1)))) push ≡ kind_jump push t (n - (t + 1))
jump_on push t n lt = let more : suc (n - (t + 2)) ≡ n - (t + 1) = omega (arith, lt) in ap (kind_jump push t) more

pub jump_last : (push t n : ℕ) → n ≤ t + 1 → lines.Goto push ≡ kind_jump push t (n - (t + 1))
jump_last push t n le = let none : 0 ≡ n - (t + 1) = omega (arith, le) in ap (kind_jump push t) none

-- at first the whole is left
pub kinds_begin : (code : List Line) (push n : ℕ) → code ++ kind_lines push 0 (n - 0) ≡ code ++ kind_lines push 0 n
kinds_begin code push n = let all : n - 0 ≡ n = omega arith in ap (λ (k : ℕ). code ++ kind_lines push 0 k) all

-- what is left gives what the whole gives
pub kind_on : (code new whole : List Line) (push t n : ℕ) (jump : Line) → t < n → jump ≡ kind_jump push t (n - (t + 1))
    → new ≡ code ++ lines.Let 12 (values.Is (Number t)) ∷ jump ∷ [] → code ++ kind_lines push t (n - t) ≡ whole
    → new ++ kind_lines push (t + 1) (n - (t + 1)) ≡ whole
kind_on code new whole push t n jump lt by is so_far =
    let more : suc (n - (t + 1)) ≡ n - t = omega (arith, lt) in
    ap (λ (front : List Line). front ++ kind_lines push (t + 1) (n - (t + 1))) is
    ∙ (append_assoc code (lines.Let 12 (values.Is (Number t)) ∷ jump ∷ []) (kind_lines push (t + 1) (n - (t + 1)))
    ∙ (ap (λ (line : Line). code ++ lines.Let 12 (values.Is (Number t)) ∷ line ∷ kind_lines push (t + 1) (n - (t + 1))) by
    ∙ (ap (λ (k : ℕ). code ++ kind_lines push t k) more ∙ so_far)))

-- at last nothing is left
pub kinds_end : (code whole : List Line) (push t n : ℕ) → n ≤ t → code ++ kind_lines push t (n - t) ≡ whole → code ≡ whole
kinds_end code whole push t n le so_far =
    let none : 0 ≡ n - t = omega (arith, le) in
    sym (append-nil code) ∙ (ap (λ (k : ℕ). code ++ kind_lines push t k) none ∙ so_far)
