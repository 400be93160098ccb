-- The search for the first register.
use Rattle.std.proofs.Common.{◌≡◌, ◌↔◌, ℕ, zero, suc, ◌<◌, ◌≤◌, Bool, true, false, cond, List, [], ◌∷◌, length, find, Option, Some, None, refl, sym, ap, subst, ◌∙◌, arith}
use Rattle.std.specs.Prelude.{slice_get, nat_lt, IsTrue}
use Rattle.std.specs.List.{position, position_or_len}
use Rattle.std.proofs.lemmas.Option.{same_Some}
use Rattle.std.proofs.lemmas.Bool.Decides.{nat_tests}
use Rattle.std.proofs.lemmas.List.Folds.{find_at}
use Rattle.norm_lang.specs.declared.text.Reg.{Reg}
use Rattle.norm_lang.specs.Limits.{is_register}
use Rattle.norm_paths.specs.Found.{all_registers}
use Rattle.norm_paths.proofs.Within.{all_get}
use Rattle.rule_registers.specs.First.{IsFirst}

-- ---- by its place

module _ (test : Reg → Bool) (rs : List Reg) where
  past_end : (xs : List Reg) (n : ℕ) → length xs ≤ n → slice_get xs n ≡ None
  past_end [] n past = refl
  past_end (x ∷ xs) zero past = absurd (let no : ⊥ = omega (arith, past) in no)
  past_end (x ∷ xs) (suc n) past = past_end xs n (omega (arith, past))

  some_by : (k : ℕ) (b : Bool) → cond b (Some (position_or_len test rs)) None ≡ Some k → find test rs ≡ slice_get rs k
  some_by k true is = find_at test rs ∙ ap (slice_get rs) (same_Some (position_or_len test rs) k is)
  some_by k false is = let no : None ≡ Some k = is in cc

  none_by : (b : Bool) → b ≡ nat_lt (position_or_len test rs) (length rs) → cond b (Some (position_or_len test rs)) None ≡ None → find test rs ≡ None
  none_by true same is = let no : Some (position_or_len test rs) ≡ None = is in cc
  none_by false same is = find_at test rs ∙ past_end rs (position_or_len test rs) (grind (arith, nat_tests))

pub place_none : (test : Reg → Bool) (rs : List Reg) (place : Option ℕ) → place ≡ position test rs → place ≡ None → None ≡ find test rs
place_none test rs place is none = sym (none_by test rs (nat_lt (position_or_len test rs) (length rs)) refl (sym is ∙ none))

pub place_some : (test : Reg → Bool) (rs : List Reg) (place : Option ℕ) (k : ℕ) (found : Option Reg) → place ≡ position test rs → place ≡ Some k → found ≡ slice_get rs k → found ≡ find test rs
place_some test rs place k found is some at = at ∙ sym (some_by test rs k (nat_lt (position_or_len test rs) (length rs)) (sym is ∙ some))

-- ---- what it finds

-- the first of a list of which this holds
abbrev FirstIn : (Reg → Type 0) → List Reg → Option Reg → Type 0
FirstIn P rs None = (k : ℕ) (r : Reg) → slice_get rs k ≡ Some r → ¬ P r
FirstIn P rs (Some r) = (k : ℕ) × (slice_get rs k ≡ Some r) × P r × ((j : ℕ) (s : Reg) → j < k → slice_get rs j ≡ Some s → ¬ P s)

module _ (test : Reg → Bool) (x : Reg) (rs : List Reg) where
  fails_there : test x ≡ false → (s : Reg) → Some x ≡ Some s → ¬ IsTrue (test s)
  fails_there fails s is passes = let no : true ≡ false = sym passes ∙ (ap test (sym (same_Some x s is)) ∙ fails) in cc

  one_later : test x ≡ false → (o : Option Reg) → FirstIn (λ r. IsTrue (test r)) rs o → FirstIn (λ r. IsTrue (test r)) (x ∷ rs) o
  one_later fails None none = each
    where
      each : (k : ℕ) (r : Reg) → slice_get (x ∷ rs) k ≡ Some r → ¬ IsTrue (test r)
      each zero r is = fails_there fails r is
      each (suc k) r is = none k r is
  one_later fails (Some r) found = (suc found.0, found.1, found.2, before)
    where
      before : (j : ℕ) (s : Reg) → j < suc found.0 → slice_get (x ∷ rs) j ≡ Some s → ¬ IsTrue (test s)
      before zero s less is = fails_there fails s is
      before (suc j) s less is = found.3 j s (omega (arith, less)) is

  first_by : (b : Bool) → test x ≡ b → FirstIn (λ r. IsTrue (test r)) rs (find test rs) → FirstIn (λ r. IsTrue (test r)) (x ∷ rs) (cond b (Some x) (find test rs))
  first_by true passes rest = (0, refl, passes, λ j s less. let no : ⊥ = omega (arith, less) in absurd no)
  first_by false fails rest = one_later fails (find test rs) rest

find_first : (test : Reg → Bool) (rs : List Reg) → FirstIn (λ r. IsTrue (test r)) rs (find test rs)
find_first test [] = λ k r is. let no : None ≡ Some r = is in cc
find_first test (x ∷ rs) = first_by test x rs (test x) refl (find_first test rs)

-- if a test decides what holds of registers, the first that passes it is the first of which that holds
module _ (test : Reg → Bool) (P : Reg → Type 0) (decides : (r : Reg) → IsTrue (is_register r) → IsTrue (test r) ↔ P r) where
  registered : (k : ℕ) (r : Reg) → slice_get all_registers k ≡ Some r → IsTrue (is_register r)
  registered k r is = all_get is_register all_registers k r refl is

  first_of : (o : Option Reg) → FirstIn (λ r. IsTrue (test r)) all_registers o → IsFirst P o
  first_of None none = λ k r is holds. none k r is ((decides r (registered k r is)).1 holds)
  first_of (Some r) found = (
    found.0,
    found.1,
    (decides r (registered found.0 r found.1)).0 found.2,
    λ j s less is holds. found.3 j s less is ((decides s (registered j s is)).1 holds),
  )

pub first_found : (test : Reg → Bool) (P : Reg → Type 0) → ((r : Reg) → IsTrue (is_register r) → IsTrue (test r) ↔ P r) → (found : Option Reg) → found ≡ find test all_registers → IsFirst P found
first_found test P decides found is = subst (λ (o : Option Reg). IsFirst P o) (sym is) (first_of test P decides (find test all_registers) (find_first test all_registers))
