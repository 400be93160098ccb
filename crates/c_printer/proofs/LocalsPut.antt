-- One local after another.
use Rattle.std.proofs.Common.{◌≡◌, ℕ, zero, suc, ◌+◌, ◌<◌, ◌≤◌, List, [], ◌∷◌, ◌++◌, length, drop, refl, ap, ◌∙◌, sym, append_assoc, arith}
use Rattle.c_printer.specs.Words.{local_name}
use Rattle.c_printer.specs.Functions.{local_text, local_texts}

drop_local : (names : List (List ℕ)) (d : ℕ) → d < length names → drop d names ≡ local_name names d ∷ drop (d + 1) names
drop_local [] d lt = absurd (let f : ⊥ = omega (arith, lt) in f)
drop_local (name ∷ names) zero lt = refl
drop_local (name ∷ names) (suc d) lt =
    let e : suc (d + 1) ≡ suc d + 1 = omega arith in
    drop_local names d (omega (arith, lt)) ∙ ap (λ (k : ℕ). local_name names d ∷ drop k (name ∷ names)) e

-- past the end of a table there is no name
pub no_local : (names : List (List ℕ)) (d : ℕ) → length names ≤ d → [] ≡ local_name names d
no_local [] d le = refl
no_local (name ∷ names) zero le = absurd (let f : ⊥ = omega (arith, le) in f)
no_local (name ∷ names) (suc d) le = no_local names d (omega (arith, le))

-- what is left after a local was put
pub local_more : (names : List (List ℕ)) (d : ℕ) (old new whole : List ℕ) → d < length names → new ≡ old ++ local_text (local_name names d)
    → old ++ local_texts (drop d names) ≡ whole → new ++ local_texts (drop (d + 1) names) ≡ whole
local_more names d old new whole lt put same =
    ap (λ (l : List ℕ). l ++ local_texts (drop (d + 1) names)) put ∙ append_assoc old (local_text (local_name names d)) (local_texts (drop (d + 1) names))
    ∙ sym (ap (λ (l : List (List ℕ)). old ++ local_texts l) (drop_local names d lt)) ∙ same
