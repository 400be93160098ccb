-- One declaration of a claim after another.
use Rattle.std.proofs.Common.{◌≡◌, ℕ, suc, ◌+◌, ◌-◌, ◌<◌, ◌≤◌, List, ◌++◌, ap, ◌∙◌, sym, append_assoc, arith}
use Rattle.std.proofs.lemmas.List.{append-nil}
use Rattle.c_printer.specs.Header.{claim_text, claim_texts}

-- what is left after a declaration was put
pub claim_more : (name : List ℕ) (n k : ℕ) (old new whole : List ℕ) → k < n → new ≡ old ++ claim_text name k
    → old ++ claim_texts name k (n - k) ≡ whole → new ++ claim_texts name (k + 1) (n - (k + 1)) ≡ whole
claim_more name n k old new whole lt put same =
    let left : n - k ≡ suc (n - (k + 1)) = omega (arith, lt) in
    ap (λ (l : List ℕ). l ++ claim_texts name (k + 1) (n - (k + 1))) put ∙ append_assoc old (claim_text name k) (claim_texts name (k + 1) (n - (k + 1)))
    ∙ sym (ap (λ (c : ℕ). old ++ claim_texts name k c) left) ∙ same

pub claims_done : (name : List ℕ) (n k : ℕ) (old whole : List ℕ) → n ≤ k → old ++ claim_texts name k (n - k) ≡ whole → old ≡ whole
claims_done name n k old whole le same =
    let none : n - k ≡ 0 = omega (arith, le) in
    sym (ap (λ (c : ℕ). old ++ claim_texts name k c) none ∙ append-nil old) ∙ same
