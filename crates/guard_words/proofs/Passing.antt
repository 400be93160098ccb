-- Turns of the loop that validates guards.
use Rattle.std.proofs.Common.{◌≡◌, ℕ, zero, suc, ◌+◌, ◌<◌, ◌≤◌, Bool, true, false, List, [], ◌∷◌, ◌++◌, length, take, drop, refl, sym, ◌∙◌, ap, arith, if◌then◌else◌}
use Rattle.std.specs.Prelude.{slice_get, slice_set, unwrap_or, ◌==◌}
use Rattle.guard_words.specs.Guards.{passed, passed_at}

-- the flags so far, and what is left to pass
abbrev pub passing : List ℕ → List Bool → ℕ → List Bool
passing slots flags r = take r flags ++ passed (drop r slots) (drop r flags)

first_passed : (b : Bool) (flag : Bool) (slots : List ℕ) (flags : List Bool)
    → (if b then flag else true) ∷ passed slots flags
    ≡ take 1 (if b then flag ∷ flags else slice_set (flag ∷ flags) 0 true) ++ passed slots (drop 1 (if b then flag ∷ flags else slice_set (flag ∷ flags) 0 true))
first_passed true flag slots flags = refl
first_passed false flag slots flags = refl

later_passed : (b : Bool) (flag : Bool) (flags : List Bool) (r : ℕ)
    → (if b then flag ∷ flags else slice_set (flag ∷ flags) (suc r) true) ≡ flag ∷ (if b then flags else slice_set flags r true)
later_passed true flag flags r = refl
later_passed false flag flags r = refl

turn : (slots : List ℕ) (flags : List Bool) (r : ℕ) → r < length slots → length flags ≡ length slots → passing slots flags r ≡ passing (slots) (passed_at slots flags r) (suc r)
turn [] flags r lt same = absurd (omega (arith, lt))
turn (slot ∷ slots) [] r lt same = absurd (omega (arith, same))
turn (slot ∷ slots) (flag ∷ flags) zero lt same = first_passed (slot == 0) flag slots flags
turn (slot ∷ slots) (flag ∷ flags) (suc r) lt same =
    let rest = turn slots flags r (omega (arith, lt)) (omega (arith, same)) in
    let later = later_passed (unwrap_or (slice_get slots r) 0 == 0) flag flags r in
    ap (λ (l : List Bool). flag ∷ l) rest ∙ sym (ap (λ (l : List Bool). passing (slot ∷ slots) l (suc (suc r))) later)

pub passed_one : (slots : List ℕ) (r : ℕ) (here next whole : List Bool) → r < length slots → length here ≡ length slots → next ≡ passed_at slots here r
    → passing slots here r ≡ whole → passing slots next (r + 1) ≡ whole
passed_one slots r here next whole lt same is so_far =
    let n : r + 1 ≡ suc r = omega arith in
    ap (λ (k : ℕ). passing slots next k) n ∙ ap (λ (l : List Bool). passing slots l (suc r)) is ∙ sym (turn slots here r lt same) ∙ so_far

all_passed : (slots : List ℕ) (flags : List Bool) (r : ℕ) → length slots ≤ r → length flags ≡ length slots → passing slots flags r ≡ flags
all_passed [] [] zero le same = refl
all_passed [] [] (suc r) le same = refl
all_passed [] (flag ∷ flags) r le same = absurd (omega (arith, same))
all_passed (slot ∷ slots) [] r le same = absurd (omega (arith, same))
all_passed (slot ∷ slots) (flag ∷ flags) zero le same = absurd (omega (arith, le))
all_passed (slot ∷ slots) (flag ∷ flags) (suc r) le same = ap (λ (l : List Bool). flag ∷ l) (all_passed slots flags r (omega (arith, le)) (omega (arith, same)))

pub passed_all : (slots : List ℕ) (r : ℕ) (here whole : List Bool) → length slots ≤ r → length here ≡ length slots → passing slots here r ≡ whole → here ≡ whole
passed_all slots r here whole le same so_far = sym (all_passed slots here r le same) ∙ so_far
