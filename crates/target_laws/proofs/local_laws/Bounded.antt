-- Steps settle within a bound: if no place leads back to itself, each of so many places is passed at most once.
use Rattle.std.proofs.Common.{◌≡◌, ℕ, zero, suc, ◌+◌, ◌<◌, ◌≤◌, ◌⊎◌, inl, inr, Bool, true, false, List, [], ◌∷◌, length, Option, Some, None, refl, sym, ap, subst, ◌∙◌, arith}
use Rattle.std.specs.Prelude.{if◌then◌else◌, ◌==◌}
use Rattle.std.proofs.lemmas.Bool.{cases_eq, cases_lt}
use Rattle.std.proofs.lemmas.Bool.Decides.{nat_tests}
use Rattle.norm_lang.specs.Local.{Spot, go_on}
use Rattle.norm_lang.specs.Flow.{Leads}
use Rattle.target_laws.proofs.local_laws.Among.{IsAmong, leads_round}
use Rattle.target_laws.specs.local_laws.Settling.{run_by, SettlesBy, rests, goes_on}

-- ---- what settles

-- after a step the rest settles at the same spot
pub settles_next : (step : Spot → Option Spot) (here next there : Spot) → step here ≡ Some next → SettlesBy step here there → SettlesBy step next there
settles_next step here next there is (rests _ none) = absurd (let z : None ≡ Some next = sym none ∙ is in cc)
settles_next step here next there is (goes_on _ other _ is' rest) = let z : Some other ≡ Some next = sym is' ∙ is in let e : other ≡ next = cc in subst (λ (s : Spot). SettlesBy step s there) e rest

-- if no step leads on, it is there already
pub settles_here : (step : Spot → Option Spot) (here there : Spot) → step here ≡ None → SettlesBy step here there → here ≡ there
settles_here step here there is (rests _ none) = refl
settles_here step here there is (goes_on _ next _ is' rest) = absurd (let z : None ≡ Some next = sym is ∙ is' in cc)

-- it settles at one spot alone
pub settles_once : (step : Spot → Option Spot) (here one other : Spot) → SettlesBy step here one → SettlesBy step here other → one ≡ other
settles_once step here one other (rests _ none) settles = settles_here step here other none settles
settles_once step here one other (goes_on _ next _ is rest) settles = settles_once step next one other rest (settles_next step here next other is settles)

-- and no step leads on from there
pub settled : (step : Spot → Option Spot) (here there : Spot) → SettlesBy step here there → step there ≡ None
settled step here there (rests _ none) = none
settled step here there (goes_on _ next _ is rest) = settled step next there rest

-- ---- places that were passed, and places that are left

abbrev below : ℕ → List ℕ
below zero = []
below (suc n) = n ∷ below n

abbrev without : ℕ → List ℕ → List ℕ
without x [] = []
without x (y ∷ ys) = if x == y then ys else (y ∷ without x ys)

length_below : (n : ℕ) → length (below n) ≡ n
length_below zero = refl
length_below (suc n) = ap suc (length_below n)

among_below : (n k : ℕ) → k < n → IsAmong k (below n)
among_below zero k lt = let no : ⊥ = omega arith in absurd no
among_below (suc n) k lt = elim (cases_eq k n) [ inl same ↦ inl same | inr other ↦ (let less : k < n = omega arith in inr (among_below n k less)) ]

length_without : (x : ℕ) (ys : List ℕ) → IsAmong x ys → length (without x ys) + 1 ≡ length ys
length_without x [] among = absurd among
length_without x (y ∷ ys) among = by_test (x == y) refl (λ more. length_without x ys more)
  where
    by_test : (b : Bool) → (x == y) ≡ b → (IsAmong x ys → length (without x ys) + 1 ≡ length ys) → length (if b then ys else (y ∷ without x ys)) + 1 ≡ suc (length ys)
    by_test true is rest = omega arith
    by_test false is rest = elim among [ inl same ↦ absurd (let no : false ≡ true = grind (arith, nat_tests, is, same) in cc) | inr more ↦ (let shorter = rest more in omega arith) ]

among_without : (x k : ℕ) (ys : List ℕ) → IsAmong k ys → (k ≡ x) ⊎ IsAmong k (without x ys)
among_without x k [] among = absurd among
among_without x k (y ∷ ys) among = by_test (x == y) refl (λ more. among_without x k ys more)
  where
    by_test : (b : Bool) → (x == y) ≡ b → (IsAmong k ys → (k ≡ x) ⊎ IsAmong k (without x ys)) → (k ≡ x) ⊎ IsAmong k (if b then ys else (y ∷ without x ys))
    by_test true is rest = elim among [ inl same ↦ inl (let e : x ≡ y = grind (arith, nat_tests, is) in same ∙ sym e) | inr more ↦ inr more ]
    by_test false is rest = elim among [ inl same ↦ inr (inl same) | inr more ↦ elim (rest more) [ inl here ↦ inl here | inr left ↦ inr (inr left) ] ]

-- ---- each place at most once

-- steps leave places below a count alone, and along a relation in which no place leads back to itself
pub record StepsAcyclic (step : Spot → Option Spot) (count : ℕ) (Next : ℕ → ℕ → Type 0) : Type 0 where
  pub inside : (here next : Spot) → step here ≡ Some next → here.at < count
  pub follows : (here next : Spot) → step here ≡ Some next → next.at < count → Next here.at next.at
  pub acyclic : (at last : ℕ) (path : List ℕ) → Leads Next at (last ∷ path) at → ⊥

at_rest : (step : Spot → Option Spot) (n : ℕ) (here : Spot) → step here ≡ None → SettlesBy step here (run_by step n here)
at_rest step n here none = subst (λ (there : Spot). SettlesBy step here there) (sym (stays n)) (rests here none)
  where
    stays : (n : ℕ) → run_by step n here ≡ here
    stays zero = refl
    stays (suc n) = ap (λ next. go_on next here (run_by step n)) none

-- each place below the count was passed or is left
abbrev Covers : ℕ → List ℕ → List ℕ → Type 0
Covers count path left = (k : ℕ) → k < count → IsAmong k path ⊎ IsAmong k left

covers_more : (count at : ℕ) (path left : List ℕ) → Covers count path left → Covers count (at ∷ path) (without at left)
covers_more count at path left covers = λ k lt. elim (covers k lt) [
  | inl passed ↦ inl (inr passed)
  | inr among ↦ elim (among_without at k left among) [ inl same ↦ inl (inl same) | inr still ↦ inr still ]
]

-- from the end of a path so many steps settle, with so many places left
abbrev SettlesWithin : (Spot → Option Spot) → ℕ → (ℕ → ℕ → Type 0) → ℕ → ℕ → Type 0
SettlesWithin step count Next start n = (left path : List ℕ) (here : Spot) → length left ≤ n → Covers count path left → Leads Next start path here.at → SettlesBy step here (run_by step n here)

passed_once : (Next : ℕ → ℕ → Type 0) → ((at last : ℕ) (path : List ℕ) → Leads Next at (last ∷ path) at → ⊥) → (start at : ℕ) (path : List ℕ) → Leads Next start path at → IsAmong at path → ⊥
passed_once Next acyclic start at path leads passed = let round = leads_round Next start at at path leads passed in acyclic at round.0 round.1 round.2

settles_turn : (step : Spot → Option Spot) (count : ℕ) (Next : ℕ → ℕ → Type 0) (start n : ℕ) → StepsAcyclic step count Next → SettlesWithin step count Next start n → SettlesWithin step count Next start (suc n)
settles_turn step count Next start n acyclic rest left path here few covers leads = by_next (step here) refl
  where
    -- the next spot is past the end, or one place fewer is left
    by_place : (next : Spot) → step here ≡ Some next → (next.at < count) ⊎ (count ≤ next.at) → SettlesBy step next (run_by step n next)
    by_place next is (inr past) = by_step (step next) refl
      where
        by_step : (o : Option Spot) → step next ≡ o → SettlesBy step next (run_by step n next)
        by_step None none = at_rest step n next none
        by_step (Some further) goes = let lt = acyclic.inside next further goes in let no : ⊥ = omega (arith, lt, past) in absurd no
    by_place next is (inl less) = elim (covers here.at (acyclic.inside here next is)) [
      | inl passed ↦ absurd (passed_once Next acyclic.acyclic start here.at path leads passed)
      | inr among ↦ (
          let shorter = length_without here.at left among in
          let fewer : length (without here.at left) ≤ n = omega (arith, shorter, few) in
          rest (without here.at left) (here.at ∷ path) next fewer (covers_more count here.at path left covers) (acyclic.follows here next is less, leads))
    ]

    by_next : (o : Option Spot) → step here ≡ o → SettlesBy step here (run_by step (suc n) here)
    by_next None is = at_rest step (suc n) here is
    by_next (Some next) is = subst (λ (o : Option Spot). SettlesBy step here (go_on o here (run_by step n))) (sym is) (goes_on here next (run_by step n next) is (by_place next is (cases_lt next.at count)))

settles_none : (step : Spot → Option Spot) (count : ℕ) (Next : ℕ → ℕ → Type 0) (start : ℕ) → StepsAcyclic step count Next → SettlesWithin step count Next start zero
settles_none step count Next start acyclic (x ∷ left) path here few covers leads = let no : ⊥ = omega (arith, few) in absurd no
settles_none step count Next start acyclic [] path here few covers leads = by_step (step here) refl
  where
    by_step : (o : Option Spot) → step here ≡ o → SettlesBy step here here
    by_step None none = rests here none
    by_step (Some next) is = elim (covers here.at (acyclic.inside here next is)) [
      | inl passed ↦ absurd (passed_once Next acyclic.acyclic start here.at path leads passed)
      | inr among ↦ absurd among
    ]

settles_within : (step : Spot → Option Spot) (count : ℕ) (Next : ℕ → ℕ → Type 0) (start n : ℕ) → StepsAcyclic step count Next → SettlesWithin step count Next start n
settles_within step count Next start zero acyclic = settles_none step count Next start acyclic
settles_within step count Next start (suc n) acyclic = settles_turn step count Next start n acyclic (settles_within step count Next start n acyclic)

-- the count of places is bound enough
pub settles_by : (step : Spot → Option Spot) (count : ℕ) (Next : ℕ → ℕ → Type 0) → StepsAcyclic step count Next → (here : Spot) → SettlesBy step here (run_by step count here)
settles_by step count Next acyclic here =
    let few : length (below count) ≤ count = (let is = length_below count in omega (arith, is)) in
    settles_within step count Next here.at count acyclic (below count) [] here few (λ k lt. inr (among_below count k lt)) refl
