-- Where a field stands among those of its kind.
use Rattle.std.specs.Prelude.{◌≡◌, ℕ, zero, suc, ◌<◌, ◌⊎◌, true, false, List, [], ◌∷◌, length, take, Some, None, slice_get, ◌==◌}
use Rattle.std.specs.List.{list_all}
use Rattle.std.proofs.Common.{refl, ap, ◌∙◌, sym, inl, inr}
use Rattle.std.proofs.lemmas.Bool.{and_parts, cases_Bool, eqb-true, eq-eqb}
use Rattle.std.proofs.lemmas.Option.{slice_get_within}
use Rattle.norm_lang.specs.declared.text.FieldDecl.{FieldDecl}
use Rattle.norm_lang.specs.KindFields.{fields_of, place_of}

-- among the fields of a kind one of them has as many before it as stand before it among all
found_among : (owner : ℕ) (fields : List FieldDecl) (f : ℕ) (field : FieldDecl) → slice_get fields f ≡ Some field → (field.owner == owner) ≡ true
    → slice_get (fields_of owner fields) (length (fields_of owner (take f fields))) ≡ Some field
found_among owner [] f field found same = let never : None ≡ Some field = found in cc
found_among owner (x ∷ fields) zero field found same = rw (ap (λ (y : FieldDecl). y.owner == owner) ((let s : Some x ≡ Some field = found in let e : x ≡ field = cc in e)) ∙ same) found
found_among owner (x ∷ fields) (suc f) field found same = go (found_among owner fields f field found same) (cases_Bool (x.owner == owner))
  where
    go : slice_get (fields_of owner fields) (length (fields_of owner (take f fields))) ≡ Some field → ((x.owner == owner) ≡ true) ⊎ ((x.owner == owner) ≡ false)
        → slice_get (fields_of owner (x ∷ fields)) (length (fields_of owner (take (suc f) (x ∷ fields)))) ≡ Some field
    go rest (inl e) = rw e rest
    go rest (inr e) = rw e rest

-- the place of a field that is declared
place_known : (fields : List FieldDecl) (f : ℕ) (field : FieldDecl) → slice_get fields f ≡ Some field → place_of fields f ≡ length (fields_of field.owner (take f fields))
place_known fields f field found = rw found refl

-- at a field's place among the fields of its kind stands the field
pub place_finds : (fields : List FieldDecl) (f : ℕ) (field : FieldDecl) → slice_get fields f ≡ Some field → slice_get (fields_of field.owner fields) (place_of fields f) ≡ Some field
place_finds fields f field found = rw (place_known fields f field found) (found_among field.owner fields f field found (eq-eqb field.owner field.owner refl))

-- a field's place is below the count of its kind's fields
pub place_below : (fields : List FieldDecl) (f : ℕ) (field : FieldDecl) → slice_get fields f ≡ Some field → place_of fields f < length (fields_of field.owner fields)
place_below fields f field found = slice_get_within (fields_of field.owner fields) (place_of fields f) field (place_finds fields f field found)

-- if all fields are of the first kind, none is left out, and a field's number says how many stand before it
kept_all : (fields : List FieldDecl) → list_all (λ (field : FieldDecl). field.owner == 0) fields ≡ true → fields_of 0 fields ≡ fields
kept_all [] all = refl
kept_all (x ∷ fields) all =
    let parts = and_parts (x.owner == 0) (list_all (λ (field : FieldDecl). field.owner == 0) fields) all in
    rw parts.0 (ap (λ l. x ∷ l) (kept_all fields parts.1))

before_all : (fields : List FieldDecl) (f : ℕ) (field : FieldDecl) → list_all (λ (field : FieldDecl). field.owner == 0) fields ≡ true → slice_get fields f ≡ Some field
    → length (fields_of 0 (take f fields)) ≡ f
before_all [] f field all found = let never : None ≡ Some field = found in cc
before_all (x ∷ fields) zero field all found = refl
before_all (x ∷ fields) (suc f) field all found =
    let parts = and_parts (x.owner == 0) (list_all (λ (field : FieldDecl). field.owner == 0) fields) all in
    rw parts.0 (ap suc (before_all fields f field parts.1 found))

owner_at : (fields : List FieldDecl) (f : ℕ) (field : FieldDecl) → list_all (λ (field : FieldDecl). field.owner == 0) fields ≡ true → slice_get fields f ≡ Some field → field.owner ≡ 0
owner_at [] f field all found = let never : None ≡ Some field = found in cc
owner_at (x ∷ fields) zero field all found =
    let parts = and_parts (x.owner == 0) (list_all (λ (field : FieldDecl). field.owner == 0) fields) all in
    sym (ap (λ (y : FieldDecl). y.owner) ((let s : Some x ≡ Some field = found in let e : x ≡ field = cc in e))) ∙ eqb-true x.owner 0 parts.0
owner_at (x ∷ fields) (suc f) field all found =
    let parts = and_parts (x.owner == 0) (list_all (λ (field : FieldDecl). field.owner == 0) fields) all in
    owner_at fields f field parts.1 found
