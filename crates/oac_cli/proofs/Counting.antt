-- Lists that are made by counting.
use Rattle.std.proofs.Common.{◌≡◌, ℕ, zero, suc, ◌+◌, ◌-◌, ◌<◌, ◌≤◌, List, [], ◌∷◌, ◌++◌, length, refl, ap, ◌∙◌, sym, append_assoc, arith}
use Rattle.std.proofs.lemmas.List.{append-nil}
use Rattle.oac_cli.specs.Emitted.{counted}

-- at first the whole is left
pub counted_all : {A : Type 0} (f : ℕ → A) (n : ℕ) → [] ++ counted f 0 (n - 0) ≡ [] ++ counted f 0 n
counted_all f n = let all : n - 0 ≡ n = omega arith in ap (λ (k : ℕ). counted f 0 k) all

-- what is left after one was added
pub counted_more : {A : Type 0} (f : ℕ → A) (n k : ℕ) (old new whole : List A) → k < n → new ≡ old ++ f k ∷ [] → old ++ counted f k (n - k) ≡ whole
    → new ++ counted f (k + 1) (n - (k + 1)) ≡ whole
counted_more {A = A} f n k old new whole lt put same =
    let left : n - k ≡ suc (n - (k + 1)) = omega (arith, lt) in
    ap (λ (l : List A). l ++ counted f (k + 1) (n - (k + 1))) put ∙ append_assoc old (f k ∷ []) (counted f (k + 1) (n - (k + 1)))
    ∙ sym (ap (λ (c : ℕ). old ++ counted f k c) left) ∙ same

-- at last nothing is
pub counted_done : {A : Type 0} (f : ℕ → A) (n k : ℕ) (old whole : List A) → n ≤ k → old ++ counted f k (n - k) ≡ whole → old ≡ whole
counted_done f n k old whole le same =
    let none : n - k ≡ 0 = omega (arith, le) in
    sym (ap (λ (c : ℕ). old ++ counted f k c) none ∙ append-nil old) ∙ same

pub counted_length : {A : Type 0} (f : ℕ → A) (k n : ℕ) → length (counted f k n) ≡ n
counted_length f k zero = refl
counted_length f k (suc n) = ap suc (counted_length f (k + 1) n)
