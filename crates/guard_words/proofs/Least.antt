-- Turns of the loop that looks for the least register.
use Rattle.std.proofs.Common.{◌≡◌, ℕ, suc, ◌+◌, ◌-◌, ◌<◌, ◌≤◌, Bool, true, false, Option, Some, None, refl, sym, ◌∙◌, arith}
use Rattle.guard_words.specs.Guards.{least_from}

turn : (test : ℕ → Bool) (n i : ℕ) → i < n → least_from test i (n - i) ≡ least_from test i (suc (n - (i + 1)))
turn test n i lt = let k : n - i ≡ suc (n - (i + 1)) = omega arith in rw k refl

pub none_here : (test : ℕ → Bool) (n i : ℕ) (whole : Option ℕ) → i < n → false ≡ test i
    → least_from test i (n - i) ≡ whole → least_from test (i + 1) (n - (i + 1)) ≡ whole
none_here test n i whole lt fails so_far = sym (turn test n i lt ∙ rw (← fails) refl) ∙ so_far

pub found_here : (test : ℕ → Bool) (n i : ℕ) (whole : Option ℕ) → i < n → true ≡ test i
    → least_from test i (n - i) ≡ whole → Some i ≡ whole
found_here test n i whole lt holds so_far = sym (turn test n i lt ∙ rw (← holds) refl) ∙ so_far

pub none_left : (test : ℕ → Bool) (n i : ℕ) (whole : Option ℕ) → n ≤ i → least_from test i (n - i) ≡ whole → None ≡ whole
none_left test n i whole le so_far = let k : n - i ≡ 0 = omega arith in sym (rw k refl) ∙ so_far
