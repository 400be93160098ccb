-- The places that a path passed.
use Rattle.std.proofs.Common.{◌≡◌, ℕ, zero, suc, ◌<◌, ◌⊎◌, inl, inr, List, [], ◌∷◌, length, get_or, sym, arith}
use Rattle.std.specs.List.{Contains}
use Rattle.norm_lang.specs.Flow.{Leads}

-- a number is an item of a list
abbrev pub IsAmong : ℕ → List ℕ → Type 0
IsAmong x [] = ⊥
IsAmong x (y ∷ ys) = (x ≡ y) ⊎ IsAmong x ys

-- what a list contains is among its items
pub among_contained : (xs : List ℕ) (x : ℕ) → Contains xs x → IsAmong x xs
among_contained xs x contained = by_place xs contained.0 contained.1 contained.2
  where
    by_place : (xs : List ℕ) (k : ℕ) → k < length xs → get_or xs k x ≡ x → IsAmong x xs
    by_place [] k lt is = let no : ⊥ = omega (arith, lt) in absurd no
    by_place (y ∷ xs) zero lt is = inl (sym is)
    by_place (y ∷ xs) (suc k) lt is = let less : k < length xs = omega (arith, lt) in inr (by_place xs k less is)

-- from a place that a path passed, a path leads on
pub leads_round : (Next : ℕ → ℕ → Type 0) (start at to : ℕ) (path : List ℕ) → Leads Next start path to → IsAmong at path → (last : ℕ) × (path : List ℕ) × Leads Next at (last ∷ path) to
leads_round Next start at to [] leads among = absurd among
leads_round Next start at to (last ∷ path) leads (inl same) = (last, [], (leads.0, sym same))
leads_round Next start at to (last ∷ path) leads (inr more) = let round = leads_round Next start at last path leads.1 more in (last, round.0 ∷ round.1, (leads.0, round.2))
