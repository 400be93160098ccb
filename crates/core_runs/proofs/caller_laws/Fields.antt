-- The fields of a kind, what may stand in them, and that each slot has room for those of its kind: 0 stands in a field of null, and in one
-- of a node a value of what the node's kind has there.
use Rattle.std.proofs.Common.{◌≡◌, ◌≢◌, ℕ, zero, suc, ◌≤◌, ◌<◌, ◌⊎◌, inl, ⊎_elim, true, ◌&&◌, List, [], ◌∷◌, length, map, Option, Some, refl, sym, ap, ◌∙◌, subst, arith}
use Rattle.std.specs.Prelude.{slice_get, nat_lt, nat_le, option_map}
use Rattle.std.specs.List.{list_all}
use Rattle.std.proofs.lemmas.Bool.{and_parts, leb-true, ltb-true, cases_eq}
use Rattle.norm_lang.specs.declared.text.FieldKind.{FieldKind}
use Rattle.norm_lang.specs.declared.text.FieldKind.TheVariants as holdings
use Rattle.norm_lang.specs.declared.text.FieldDecl.{FieldDecl}
use Rattle.norm_lang.specs.InstructionRules.{field_kind}
use Rattle.norm_lang.specs.KindFields.{fields_of, owner_of, place_of}
use Rattle.norm_lang.specs.Limits.{has_between, is_rising, is_field, is_kind, has_groups, are_fields, are_different}
use Rattle.norm_lang.specs.LineWords.{is_name}
use Rattle.norm_lang.proofs.FieldPlaces.{place_finds, place_below}
use Rattle.target_laws.proofs.OneKind.{fields_are}
use Rattle.target_laws.proofs.Filled.{item_passes}
use Rattle.target_code.specs.declared.target.Target.{Target}
use Rattle.oa_words.specs.Words.{Sizes, FieldOf}
use Rattle.oa_words.specs.SlotKinds.{kind_of}
use Rattle.caller_parts.specs.KindCounts.{field_count, greatest_of}
use Rattle.caller_parts.specs.Settings.{Setting, Fits}
use Rattle.caller_steps.specs.Lawful.{IsLawful, LawfulValue, held_at}

-- ---- declarations

-- a field that is declared
pub record Declared (fields : List FieldDecl) (f : ℕ) : Type 0 where
  pub field : FieldDecl
  pub there : slice_get fields f ≡ Some field

pub declared : (fields : List FieldDecl) (f : ℕ) → f < length fields → Declared fields f
declared [] f lt = absurd (let none : f < 0 = lt in let no : ⊥ = omega (arith, none) in no)
declared (field ∷ fields) zero lt = record { field = field; there = refl }
declared (field ∷ fields) (suc f) lt = let rest = declared fields f (omega (arith, lt)) in record { field = rest.field; there = rest.there }

pub owner_there : (fields : List FieldDecl) (f : ℕ) (field : FieldDecl) → slice_get fields f ≡ Some field → owner_of fields f ≡ Some field.owner
owner_there fields f field there = ap (option_map (λ (d : FieldDecl). d.owner)) there

-- at its place among the fields of its kind stands what it holds
held_there : (fields : List FieldDecl) (f : ℕ) (field : FieldDecl) → slice_get fields f ≡ Some field → field_kind (fields_of field.owner fields) (place_of fields f) ≡ field_kind fields f
held_there fields f field there = ap (option_map (λ (d : FieldDecl). d.kind)) (place_finds fields f field there ∙ sym there)

-- its kind is one of the kinds
owner_small : (kinds : ℕ) (fields : List FieldDecl) (f : ℕ) (field : FieldDecl) → are_fields kinds fields ≡ true → slice_get fields f ≡ Some field → field.owner < kinds
owner_small kinds fields f field are there =
    let one = item_passes (is_field kinds) fields f field (fields_are kinds fields are) there in
    let owned = (and_parts (is_name field.name) (nat_lt field.owner kinds && is_kind kinds field.kind) one).1 in
    ltb-true field.owner kinds (and_parts (nat_lt field.owner kinds) (is_kind kinds field.kind) owned).0

-- each kind has a field
groups_filled : (kinds : ℕ) (fields : List FieldDecl) (t : ℕ) → has_groups kinds fields ≡ true → t < kinds → 1 ≤ field_count fields t
groups_filled zero fields t has lt = absurd (let no : ⊥ = omega (arith, lt) in no)
groups_filled (suc k) fields t has lt = ⊎_elim
    (λ (here : t ≡ k). subst (λ (m : ℕ). 1 ≤ field_count fields m) (sym here) own)
    (λ (other : t ≢ k). groups_filled k fields t parts.1 (omega (arith, lt, other)))
    (cases_eq t k)
  where
    parts : (has_between 1 4 (fields_of k fields) ≡ true) × (has_groups k fields ≡ true)
    parts = and_parts (has_between 1 4 (fields_of k fields)) (has_groups k fields) has

    own : 1 ≤ field_count fields k
    own = leb-true 1 (field_count fields k) (and_parts (nat_le 1 (field_count fields k)) (nat_le (field_count fields k) 4) parts.0).0

pub field_of_kind : (kinds : ℕ) (fields : List FieldDecl) (t : ℕ) → are_fields kinds fields ≡ true → t < kinds → 1 ≤ field_count fields t
field_of_kind kinds fields t are lt =
    let rest = list_all (is_field kinds) fields && are_different (map (λ field. field.name) fields) in
    groups_filled kinds fields t (and_parts (has_groups kinds fields) rest (and_parts (is_rising (map (λ field. field.owner) fields)) (has_groups kinds fields && rest) are).1).0 lt

-- no kind has more than the greatest count
greatest_least : (fields : List FieldDecl) (kinds t : ℕ) → t < kinds → field_count fields t ≤ greatest_of fields kinds
greatest_least fields zero t lt = absurd (let no : ⊥ = omega (arith, lt) in no)
greatest_least fields (suc k) t lt = ⊎_elim
    (λ (here : t ≡ k). let same : field_count fields t ≡ field_count fields k = ap (field_count fields) here in omega (arith, same))
    (λ (other : t ≢ k). let le = greatest_least fields k t (omega (arith, lt, other)) in omega (arith, le))
    (cases_eq t k)

-- each slot has room for the fields of any kind
pub fields_fit : (target : Target) (setting : Setting) (t : ℕ) → Fits target setting → t < length target.kinds → field_count target.fields t ≤ setting.sizes.fields
fields_fit target setting t fits lt =
    let le = greatest_least target.fields (length target.kinds) t lt in let same = fits.fields in omega (arith, le, same)

-- and so for each field, at its place
pub place_fits : (target : Target) (setting : Setting) (f : ℕ) → are_fields (length target.kinds) target.fields ≡ true → Fits target setting → f < length target.fields → place_of target.fields f < setting.sizes.fields
place_fits target setting f are fits lt =
    let own = declared target.fields f lt in
    let below = place_below target.fields f own.field own.there in
    let le = fields_fit target setting own.field.owner fits (owner_small (length target.kinds) target.fields f own.field are own.there) in
    omega (arith, below, le)

-- ---- words

zero_value : (n : Sizes) (kind : Option FieldKind) → LawfulValue n kind 0
zero_value n (Some (holdings.Reference k)) = inl refl
zero_value n _ = tt

-- null, or a slot of the kind that has a field
abbrev pub HasField : Target → Setting → ℕ → ℕ → Type 0
HasField target setting j f = (k : ℕ) → owner_of target.fields f ≡ Some k → (j ≡ 0) ⊎ (kind_of setting.sizes j ≡ k)

-- what such a slot has at the field's place is what the field holds
held_by : (target : Target) (setting : Setting) (j f : ℕ) → j ≢ 0 → f < length target.fields → HasField target setting j f → held_at target (kind_of setting.sizes j) (place_of target.fields f) ≡ field_kind target.fields f
held_by target setting j f some lt has =
    let own = declared target.fields f lt in
    ⊎_elim
    (λ (null : j ≡ 0). absurd (some null))
    (λ (of : kind_of setting.sizes j ≡ own.field.owner). ap (λ (k : ℕ). field_kind (fields_of k target.fields) (place_of target.fields f)) of ∙ held_there target.fields f own.field own.there)
    (has own.field.owner (owner_there target.fields f own.field own.there))

not_zero : (j : ℕ) → suc j ≢ 0
not_zero j is = let no : ⊥ = omega (arith, is) in no

-- a lawful word of a field of such a slot is a value of what the field holds
pub field_value : (target : Target) (setting : Setting) (j f word : ℕ) → f < length target.fields → HasField target setting j f → IsLawful target setting (FieldOf j (place_of target.fields f)) word
    → LawfulValue setting.sizes (field_kind target.fields f) word
field_value target setting zero f word lt has is = subst (λ (n : ℕ). LawfulValue setting.sizes (field_kind target.fields f) n) (sym is) (zero_value setting.sizes (field_kind target.fields f))
field_value target setting (suc j) f word lt has value = subst (λ (kind : Option FieldKind). LawfulValue setting.sizes kind word) (held_by target setting (suc j) f (not_zero j) lt has) value

-- and such a value is lawful in a node's
pub value_lawful : (target : Target) (setting : Setting) (j f word : ℕ) → j ≢ 0 → f < length target.fields → HasField target setting j f → LawfulValue setting.sizes (field_kind target.fields f) word
    → IsLawful target setting (FieldOf j (place_of target.fields f)) word
value_lawful target setting zero f word some lt has value = absurd (some refl)
value_lawful target setting (suc j) f word some lt has value = subst (λ (kind : Option FieldKind). LawfulValue setting.sizes kind word) (sym (held_by target setting (suc j) f some lt has)) value

-- 0 is lawful in any field
pub zero_lawful : (target : Target) (setting : Setting) (j g : ℕ) → IsLawful target setting (FieldOf j g) 0
zero_lawful target setting zero g = refl
zero_lawful target setting (suc j) g = zero_value setting.sizes (held_at target (kind_of setting.sizes (suc j)) g)
