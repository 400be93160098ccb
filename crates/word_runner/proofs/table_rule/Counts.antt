-- Entries with different numbers below n are at most n, and n of them have every number.
use Rattle.std.proofs.Common.{◌≡◌, ◌≢◌, ℕ, zero, suc, ◌+◌, ◌≤◌, ◌<◌, ◌==◌, eq-eqb, ne_eqb, Bool, List, [], ◌∷◌, length, refl, ap, ◌∙◌, arith}
use Rattle.std.specs.Prelude.{if◌then◌else◌}
use mathlib.Core.Logic.{dite}
use native.Mathlib.Decide.{ℕ_discrete}
use Rattle.caller_steps.specs.Entries.{Entry}
use Rattle.word_runner.specs.table_rule.Rule.{times}
use Rattle.word_runner.specs.table_rule.Plays.{AllBelow, Apart}

abbrev sum_below : ℕ → (ℕ → ℕ) → ℕ
sum_below zero f = 0
sum_below (suc n) f = f n + sum_below n f

sum_zero : (n : ℕ) → sum_below n (λ _. 0) ≡ 0
sum_zero zero = refl
sum_zero (suc n) = omega (arith, sum_zero n)

sum_plus : (n : ℕ) (f g : ℕ → ℕ) → sum_below n (λ i. f i + g i) ≡ sum_below n f + sum_below n g
sum_plus zero f g = refl
sum_plus (suc n) f g = omega (arith, sum_plus n f g)

abbrev is_at : ℕ → ℕ → ℕ
is_at c i = if c == i then 1 else 0

at_same : (c i : ℕ) → c ≡ i → is_at c i ≡ 1
at_same c i q = ap (λ (b : Bool). let k : ℕ = if b then 1 else 0 in k) (eq-eqb c i q)

at_other : (c i : ℕ) → c ≢ i → is_at c i ≡ 0
at_other c i q = ap (λ (b : Bool). let k : ℕ = if b then 1 else 0 in k) (ne_eqb c i q)

sum_past : (n c : ℕ) → n ≤ c → sum_below n (is_at c) ≡ 0
sum_past zero c le = refl
sum_past (suc n) c le = let a = at_other c n (λ q. absurd (omega arith)) in omega (arith, sum_past n c (omega arith))

sum_one : (n c : ℕ) → c < n → sum_below n (is_at c) ≡ 1
sum_one zero c lt = absurd (omega arith)
sum_one (suc n) c lt = dite (ℕ_discrete c n)
    (λ (q : c ≡ n). let a = at_same c n q in omega (arith, sum_past n c (omega arith)))
    (λ (q : c ≢ n). let a = at_other c n q in omega (arith, sum_one n c (omega arith)))

sum_times : (n : ℕ) (es : List Entry) → AllBelow n es → sum_below n (λ i. times i es) ≡ length es
sum_times n [] h = sum_zero n
sum_times n (e ∷ es) h =
    let a = sum_plus n (is_at e.number) (λ i. times i es) in
    let b = sum_one n e.number h.0 in
    let c = sum_times n es h.1 in
    omega (arith, a, b, c)

sum_few : (n : ℕ) (f : ℕ → ℕ) → ((i : ℕ) → i < n → f i ≤ 1) → sum_below n f ≤ n
sum_few zero f h = omega arith
sum_few (suc n) f h = omega (arith, h n (omega arith), sum_few n f (λ i lt. h i (omega arith)))

sum_full : (n : ℕ) (f : ℕ → ℕ) → ((i : ℕ) → i < n → f i ≤ 1) → sum_below n f ≡ n → (i : ℕ) → i < n → f i ≡ 1
sum_full zero f h s i lt = absurd (omega arith)
sum_full (suc n) f h s i lt =
    let top : f n ≤ 1 = h n (omega arith) in
    let few : sum_below n f ≤ n = sum_few n f (λ j q. h j (omega arith)) in
    dite (ℕ_discrete i n)
    (λ (q : i ≡ n). let one : f n ≡ 1 = omega arith in ap f q ∙ one)
    (λ (q : i ≢ n). sum_full n f (λ j z. h j (omega arith)) (omega arith) i (omega arith))

pub apart_few : (n : ℕ) (es : List Entry) → Apart n es → length es ≤ n
apart_few n es h = omega (arith, sum_times n es h.below, sum_few n (λ i. times i es) h.once)

pub apart_full : (n : ℕ) (es : List Entry) → Apart n es → length es ≡ n → (i : ℕ) → i < n → times i es ≡ 1
apart_full n es h len = sum_full n (λ i. times i es) h.once (sum_times n es h.below ∙ len)
