-- Sums over the views, and words one after another.
use Rattle.std.proofs.Common.{◌≡◌, ◌≢◌, ℕ, zero, suc, ◌+◌, ◌≤◌, ◌==◌, eq-eqb, Bool, List, [], ◌∷◌, ◌++◌, length, set, Some, refl, sym, ap, ◌∙◌, arith}
use Rattle.std.specs.Prelude.{slice_get, slice_index, if◌then◌else◌}
use mathlib.Core.Option.{some, some-injective, some-ne-none}
use lib.ListN.{get_elem?}
use Rattle.caller_steps.specs.Entries.{Entry}
use Rattle.word_runner.specs.table_rule.Parts.{total}
use Rattle.word_runner.specs.table_rule.Rule.{times, AllHere}

-- a list after one item changed
module _ {X : Type 0} where
  pub slice_get_set_same : (l : List X) (i : ℕ) (a b : X) → slice_get l i ≡ Some b → slice_get (set l i a) i ≡ Some a
  slice_get_set_same [] i a b e = absurd (cc)
  slice_get_set_same (x ∷ xs) zero a b e = refl
  slice_get_set_same (x ∷ xs) (suc i) a b e = slice_get_set_same xs i a b e

  pub slice_get_set_other : (l : List X) (i j : ℕ) (a : X) → j ≢ i → slice_get (set l i a) j ≡ slice_get l j
  slice_get_set_other (x ∷ xs) zero zero a n = absurd (n refl)
  slice_get_set_other (x ∷ xs) (suc i) (suc j) a n = slice_get_set_other xs i j a (λ e. n (ap suc e))
  slice_get_set_other _ _ _ a n = refl

  pub set_set : (l : List X) (i : ℕ) (a b : X) → set (set l i a) i b ≡ set l i b
  set_set (x ∷ xs) (suc i) a b = ap (λ t. x ∷ t) (set_set xs i a b)
  set_set _ _ a b = refl

  pub set_again : (xs : List X) (i : ℕ) (e : X) → slice_get xs i ≡ Some e → set xs i e ≡ xs
  set_again [] i e h = refl
  set_again (x ∷ xs) zero e h = let k : x ≡ e = cc in ap (λ (y : X). y ∷ xs) (sym k)
  set_again (x ∷ xs) (suc i) e h = ap (λ (t : List X). x ∷ t) (set_again xs i e h)

module _ {X : Type 0} where
  pub total_set : (f : X → ℕ) (xs : List X) (i : ℕ) (v w : X) → get_elem? xs i ≡ some v → total f (set xs i w) + f v ≡ total f xs + f w
  total_set f [] i v w e = absurd (some-ne-none v (sym e))
  total_set f (x ∷ xs) zero v w e = let h : f x ≡ f v = ap f (some-injective x v e) in omega arith
  total_set f (x ∷ xs) (suc i) v w e = omega (arith, total_set f xs i v w e)

  pub total_at : (f : X → ℕ) (xs : List X) (i : ℕ) (v : X) → get_elem? xs i ≡ some v → f v ≤ total f xs
  total_at f [] i v e = absurd (some-ne-none v (sym e))
  total_at f (x ∷ xs) zero v e = let h : f x ≡ f v = ap f (some-injective x v e) in omega arith
  total_at f (x ∷ xs) (suc i) v e = omega (arith, total_at f xs i v e)

  -- two places of the list
  pub total_two : (f : X → ℕ) (xs : List X) (i j : ℕ) (v w : X) → i ≢ j → get_elem? xs i ≡ some v → get_elem? xs j ≡ some w → f v + f w ≤ total f xs
  total_two f [] i j v w n e k = absurd (some-ne-none v (sym e))
  total_two f (x ∷ xs) zero zero v w n e k = absurd (n refl)
  total_two f (x ∷ xs) zero (suc j) v w n e k = let h : f x ≡ f v = ap f (some-injective x v e) in omega (arith, total_at f xs j w k)
  total_two f (x ∷ xs) (suc i) zero v w n e k = let h : f x ≡ f w = ap f (some-injective x w k) in omega (arith, total_at f xs i v e)
  total_two f (x ∷ xs) (suc i) (suc j) v w n e k = omega (arith, total_two f xs i j v w (λ q. n (ap suc q)) e k)

  pub total_append : (f : X → ℕ) (xs ys : List X) → total f (xs ++ ys) ≡ total f xs + total f ys
  total_append f [] ys = omega arith
  total_append f (x ∷ xs) ys = omega (arith, total_append f xs ys)

pub times_self : (e : Entry) (i : ℕ) → e.number ≡ i → times i (e ∷ []) ≡ 1
times_self e i h = ap (λ (b : Bool). (if b then 1 else 0) + 0) (eq-eqb e.number i h)

pub times_number : (e d : Entry) (i : ℕ) → e.number ≡ d.number → times i (e ∷ []) ≡ times i (d ∷ [])
times_number e d i h = ap (λ (n : ℕ). (if n == i then 1 else 0) + 0) h

pub times_append : (i : ℕ) (xs ys : List Entry) → times i (xs ++ ys) ≡ times i xs + times i ys
times_append i [] ys = omega arith
times_append i (x ∷ xs) ys = omega (arith, times_append i xs ys)

times_head : (e : Entry) (es : List Entry) (i : ℕ) → e.number ≡ i → times i (e ∷ es) ≡ 1 + times i es
times_head e es i h = ap (λ (b : Bool). (if b then 1 else 0) + times i es) (eq-eqb e.number i h)

-- an entry that stands in none of the list's places may change
pub here_set : (all es : List Entry) (c : ℕ) (new : Entry) → times c es ≡ 0 → AllHere all es → AllHere (set all c new) es
here_set all [] c new z h = tt
here_set all (e ∷ es) c new z h =
    let apart : e.number ≢ c = λ q. let one = times_head e es c q in omega arith in
    let rest : times c es ≡ 0 = omega arith in
    (slice_get_set_other all c e.number new apart ∙ h.0, here_set all es c new rest h.1)

pub same_set : (xs ys : List ℕ) (a w i : ℕ) → length xs ≡ length ys → slice_index xs i ≡ slice_index ys i → slice_index (set xs a w) i ≡ slice_index (set ys a w) i
same_set [] [] a w i l e = e
same_set [] (y ∷ ys) a w i l e = absurd (omega arith)
same_set (x ∷ xs) [] a w i l e = absurd (omega arith)
same_set (x ∷ xs) (y ∷ ys) zero w zero l e = refl
same_set (x ∷ xs) (y ∷ ys) zero w (suc i) l e = e
same_set (x ∷ xs) (y ∷ ys) (suc a) w zero l e = e
same_set (x ∷ xs) (y ∷ ys) (suc a) w (suc i) l e = same_set xs ys a w i (omega arith) e
