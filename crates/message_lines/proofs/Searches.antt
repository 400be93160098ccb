-- Lines that are looked for one by one.
use Rattle.std.proofs.Common.{◌≡◌, ℕ, zero, suc, ◌-◌, ◌<◌, Bool, true, false, List, [], ◌∷◌, map, get_or, filter, Option, Some, None, slice_get, refl, sym, ◌∙◌, arith}

-- the line looked for
pub found : {X : Type 0} (test : X → Bool) (x : X) (rest xs : List X) (at : ℕ) (whole : Option X) → xs ≡ x ∷ rest → test x ≡ true → at ≡ 0
    → slice_get (filter test xs) at ≡ whole → whole ≡ Some x
found test x rest xs at whole is passes none so_far = sym so_far ∙ rw (is, passes, none) refl

-- one that passes the test, before it
pub counted : {X : Type 0} (test : X → Bool) (x : X) (rest xs : List X) (at : ℕ) (whole : Option X) → xs ≡ x ∷ rest → test x ≡ true → 0 < at
    → slice_get (filter test xs) at ≡ whole → slice_get (filter test rest) (at - 1) ≡ whole
counted test x rest xs zero whole is passes more so_far = absurd (omega arith)
counted test x rest xs (suc at) whole is passes more so_far = let less : suc at - 1 ≡ at = omega arith in rw less (sym (rw (is, passes) refl) ∙ so_far)

-- one that doesn't
pub passed : {X : Type 0} (test : X → Bool) (x : X) (rest xs : List X) (at : ℕ) (whole : Option X) → xs ≡ x ∷ rest → test x ≡ false
    → slice_get (filter test xs) at ≡ whole → slice_get (filter test rest) at ≡ whole
passed test x rest xs at whole is fails so_far = sym (rw (is, fails) refl) ∙ so_far

-- none is left
pub missed : {X : Type 0} (test : X → Bool) (xs : List X) (at : ℕ) (whole : Option X) → xs ≡ [] → slice_get (filter test xs) at ≡ whole → whole ≡ None
missed test xs at whole is so_far = sym so_far ∙ rw is refl

-- the word looked for
pub word_found : {X : Type 0} (view : X → List ℕ) (x : X) (rest xs : List X) (at : ℕ) (whole : List ℕ) → xs ≡ x ∷ rest → at ≡ 0
    → get_or (map view xs) at [] ≡ whole → whole ≡ view x
word_found view x rest xs at whole is none so_far = sym so_far ∙ rw (is, none) refl

-- one before it
pub word_passed : {X : Type 0} (view : X → List ℕ) (x : X) (rest xs : List X) (at : ℕ) (whole : List ℕ) → xs ≡ x ∷ rest → 0 < at
    → get_or (map view xs) at [] ≡ whole → get_or (map view rest) (at - 1) [] ≡ whole
word_passed view x rest xs zero whole is more so_far = absurd (omega arith)
word_passed view x rest xs (suc at) whole is more so_far = let less : suc at - 1 ≡ at = omega arith in rw less (sym (rw is refl) ∙ so_far)

-- none is left
pub word_missed : {X : Type 0} (view : X → List ℕ) (xs : List X) (at : ℕ) (whole : List ℕ) → xs ≡ [] → get_or (map view xs) at [] ≡ whole → whole ≡ []
word_missed view xs at whole is so_far = sym so_far ∙ rw is refl
