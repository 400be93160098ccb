-- A name is told by its three numbers.
use Rattle.std.proofs.Common.{◌≡◌, ℕ, zero, suc, true, ◌==◌, ◌&&◌, refl, sym, ◌∙◌, ap, arith}
use Rattle.std.proofs.lemmas.Bool.{and_parts}
use Rattle.std.proofs.lemmas.Bool.Decides.{nat_tests}
use Rattle.oa_words.specs.Words.{Word, Phase, Place, Warning, Hazard, Status, FieldOf, Cell, Head, Link}
use Rattle.oa_words.specs.Memories.{kind_code, first_code, second_code, same_word}

word_by : ℕ → ℕ → ℕ → Word
word_by zero a b = Phase
word_by (suc zero) a b = Place a
word_by (suc (suc zero)) a b = Warning a
word_by (suc (suc (suc zero))) a b = Hazard a b
word_by (suc (suc (suc (suc zero)))) a b = Status a
word_by (suc (suc (suc (suc (suc zero))))) a b = FieldOf a b
word_by (suc (suc (suc (suc (suc (suc zero)))))) a b = Cell a
word_by (suc (suc (suc (suc (suc (suc (suc zero))))))) a b = Head a
word_by (suc (suc (suc (suc (suc (suc (suc (suc k)))))))) a b = Link a

by_codes : (w : Word) → word_by (kind_code w) (first_code w) (second_code w) ≡ w
unfolding word_by
by_codes Phase = refl
by_codes (Place c) = refl
by_codes (Warning c) = refl
by_codes (Hazard c r) = refl
by_codes (Status j) = refl
by_codes (FieldOf j g) = refl
by_codes (Cell x) = refl
by_codes (Head t) = refl
by_codes (Link j) = refl

equal : (a b : ℕ) → (a == b) ≡ true → a ≡ b
equal a b is = grind (arith, nat_tests)

itself : (a : ℕ) → (a == a) ≡ true
itself a = grind (arith, nat_tests)

pub same_is : (v w : Word) → same_word v w ≡ true → v ≡ w
same_is v w is =
    let one = and_parts (kind_code v == kind_code w) ((first_code v == first_code w) && (second_code v == second_code w)) is in
    let two = and_parts (first_code v == first_code w) (second_code v == second_code w) one.1 in
    sym (by_codes v) ∙ ap (λ (k : ℕ). word_by k (first_code v) (second_code v)) (equal (kind_code v) (kind_code w) one.0)
    ∙ ap (λ (k : ℕ). word_by (kind_code w) k (second_code v)) (equal (first_code v) (first_code w) two.0)
    ∙ ap (λ (k : ℕ). word_by (kind_code w) (first_code w) k) (equal (second_code v) (second_code w) two.1) ∙ by_codes w

pub same_itself : (v : Word) → same_word v v ≡ true
same_itself v = rw (itself (kind_code v), itself (first_code v), itself (second_code v)) refl
