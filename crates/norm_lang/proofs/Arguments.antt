-- The arguments of a call.
use Rattle.std.proofs.Common.{ℕ, zero, suc, ◌<◌, ◌^◌, ◌≡◌, Bool, true, List, [], ◌∷◌, length, drop, get_or, sym, ap, refl}
use Rattle.std.proofs.lemmas.Bool.{lt-ltb, eq-eqb}
use Rattle.std.specs.Prelude.{◌&&◌, ◌==◌, nat_lt}
use Rattle.std.specs.List.{list_all}
use Rattle.norm_lang.specs.Arguments.{are_words, are_arguments}

small : (args : List ℕ) → ((i : ℕ) → get_or args i 0 < 2 ^ 64) → list_all (λ word. nat_lt word (2 ^ 64)) args ≡ true
small [] fits = refl
small (word ∷ args) fits = rw (lt-ltb word (2 ^ 64) (fits zero), small args (λ i. fits (suc i))) refl

-- the words of an array of four
pub array_has_words : (args : List ℕ) → length args ≡ 4 → ((i : ℕ) → get_or args i 0 < 2 ^ 64) → are_words args ≡ true
array_has_words args four fits = rw (eq-eqb (length args) 4 four, small args fits) refl

-- they are arguments exactly if those past the count are 0
pub array_has_arguments : (count : ℕ) (args : List ℕ) → length args ≡ 4 → ((i : ℕ) → get_or args i 0 < 2 ^ 64)
    → list_all (λ word. word == 0) (drop count args) ≡ are_arguments count args
array_has_arguments count args four fits = ap (λ (b : Bool). b && list_all (λ word. word == 0) (drop count args)) (sym (array_has_words args four fits))
