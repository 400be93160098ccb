-- One argument after another.
use Rattle.std.proofs.Common.{◌≡◌, ℕ, suc, ◌+◌, ◌-◌, ◌<◌, ◌≤◌, List, ◌++◌, ap, ◌∙◌, sym, append_assoc, arith}
use Rattle.std.proofs.lemmas.List.{append-nil}
use Rattle.c_printer.specs.Operations.{argument_text, argument_texts, given_text, given_texts}

-- what is left after an argument was put
pub argument_more : (n k : ℕ) (old new whole : List ℕ) → k < n → new ≡ old ++ argument_text k
    → old ++ argument_texts k (n - k) ≡ whole → new ++ argument_texts (k + 1) (n - (k + 1)) ≡ whole
argument_more n k old new whole lt put same =
    let left : n - k ≡ suc (n - (k + 1)) = omega (arith, lt) in
    ap (λ (l : List ℕ). l ++ argument_texts (k + 1) (n - (k + 1))) put ∙ append_assoc old (argument_text k) (argument_texts (k + 1) (n - (k + 1)))
    ∙ sym (ap (λ (c : ℕ). old ++ argument_texts k c) left) ∙ same

pub arguments_done : (n k : ℕ) (old whole : List ℕ) → n ≤ k → old ++ argument_texts k (n - k) ≡ whole → old ≡ whole
arguments_done n k old whole le same =
    let none : n - k ≡ 0 = omega (arith, le) in
    sym (ap (λ (c : ℕ). old ++ argument_texts k c) none ∙ append-nil old) ∙ same

-- and after its local was
pub given_more : (n k : ℕ) (old new whole : List ℕ) → k < n → new ≡ old ++ given_text k
    → old ++ given_texts k (n - k) ≡ whole → new ++ given_texts (k + 1) (n - (k + 1)) ≡ whole
given_more n k old new whole lt put same =
    let left : n - k ≡ suc (n - (k + 1)) = omega (arith, lt) in
    ap (λ (l : List ℕ). l ++ given_texts (k + 1) (n - (k + 1))) put ∙ append_assoc old (given_text k) (given_texts (k + 1) (n - (k + 1)))
    ∙ sym (ap (λ (c : ℕ). old ++ given_texts k c) left) ∙ same

pub given_done : (n k : ℕ) (old whole : List ℕ) → n ≤ k → old ++ given_texts k (n - k) ≡ whole → old ≡ whole
given_done n k old whole le same =
    let none : n - k ≡ 0 = omega (arith, le) in
    sym (ap (λ (c : ℕ). old ++ given_texts k c) none ∙ append-nil old) ∙ same
