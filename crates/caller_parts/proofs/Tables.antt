-- A table is filled place by place, and holds small places.
use Rattle.std.proofs.Common.{◌≡◌, ℕ, zero, suc, ◌+◌, ◌<◌, ◌≤◌, ◌==◌, Bool, true, false, List, [], ◌∷◌, length, take, set, Option, Some, None, refl, ◌∙◌, arith}
use Rattle.std.specs.Prelude.{slice_index, nat_lt}
use Rattle.std.proofs.lemmas.Bool.{ltb-true, ltb-false}
use Rattle.std.proofs.lemmas.List.{get_or-set_same, get_or-set_other}
use Rattle.norm_lang.specs.declared.text.FieldDecl.{FieldDecl}
use Rattle.norm_lang.specs.KindFields.{fields_of, owner_of, place_of, place_among}

-- one more place is filled
pub one_more : (right : ℕ → ℕ) (found : List ℕ) (i value : ℕ) → i < length found → ((f : ℕ) → f < i → slice_index found f ≡ right f) → value ≡ right i
    → (f : ℕ) → f < i + 1 → slice_index (set found i value) f ≡ right f
one_more right found i value lt so_far is f below = by (nat_lt f i) refl where
  by : (b : Bool) → nat_lt f i ≡ b → slice_index (set found i value) f ≡ right f
  by true before = let earlier : f < i = ltb-true f i before in
      get_or-set_other found i f value 0 (λ (same : f ≡ i). absurd (omega (arith, earlier, same))) ∙ so_far f earlier
  by false not_before = let last : f ≡ i = (let later = ltb-false f i not_before in omega (arith, later, below)) in
      rw last (get_or-set_same found i value 0 lt ∙ is)

-- no more fields of a kind stand before a field than its number
few_before : (owner : ℕ) (fields : List FieldDecl) (f : ℕ) → length (fields_of owner (take f fields)) ≤ f
few_before owner [] zero = omega arith
few_before owner [] (suc f) = omega arith
few_before owner (x ∷ fields) zero = omega arith
few_before owner (x ∷ fields) (suc f) = by (x.owner == owner) refl (few_before owner fields f) where
  by : (b : Bool) → (x.owner == owner) ≡ b → length (fields_of owner (take f fields)) ≤ f → length (fields_of owner (take (suc f) (x ∷ fields))) ≤ suc f
  by true is rest = rw is (omega (arith, rest))
  by false is rest = rw is (omega (arith, rest))

pub place_small : (fields : List FieldDecl) (f : ℕ) → place_of fields f ≤ f
place_small fields f = by (owner_of fields f) where
  by : (owner : Option ℕ) → place_among owner fields f ≤ f
  by None = omega arith
  by (Some owner) = few_before owner fields f
