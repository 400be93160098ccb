-- The strides of a text have room for the fields of its kinds.
use Rattle.std.proofs.Common.{◌≡◌, ℕ, zero, suc, ◌+◌, ◌<◌, ◌≤◌, true, false, ◌&&◌, List, map, length, inl, inr, ⊎_elim, refl, sym, ◌∙◌, ap, subst, arith}
use Rattle.std.specs.Prelude.{nat_le, slice_index}
use Rattle.std.specs.List.{list_all}
use Rattle.std.proofs.lemmas.Bool.{and_parts, cases_Bool, cases_lt}
use Rattle.std.proofs.lemmas.Bool.Decides.{nat_tests}
use Rattle.norm_lang.specs.declared.text.FieldDecl.{FieldDecl}
use Rattle.norm_lang.specs.declared.text.RootDecl.{RootDecl}
use Rattle.norm_lang.specs.declared.text.Text.{Text}
use Rattle.norm_lang.specs.Bounds.{most_fields, most_roots}
use Rattle.norm_lang.specs.KindFields.{fields_of}
use Rattle.norm_lang.specs.Limits.{has_between, has_groups, is_rising, is_field, is_root, are_different, are_kinds, are_fields, are_nodes, are_roots, are_ops, owners_of, IsWithinLimits}
use Rattle.c_language.specs.Steps.{Pool}
use Rattle.c_printer.specs.Lvalues.{IsStride, HasStrides}
use Rattle.c_printer.proofs.LvaluesApart.{lvalues_apart}
use Rattle.oac_cli.specs.Emitted.{stride_of, counted, field_count, kind_stride, strides_of, IsPoolOf, EmittedPlacesStandApart}

counted_at : (f : ℕ → ℕ) (k n i : ℕ) → i < n → slice_index (counted f k n) i ≡ f (k + i)
counted_at f k zero i lt = absurd (let no : ⊥ = omega (arith, lt) in no)
counted_at f k (suc n) zero lt = ap f (let same : k ≡ k + 0 = omega arith in same)
counted_at f k (suc n) (suc i) lt = counted_at f (k + 1) n i (omega (arith, lt)) ∙ ap f (let same : k + 1 + i ≡ k + suc i = omega arith in same)

counted_first : (f : ℕ → ℕ) (n i : ℕ) → i < n → slice_index (counted f 0 n) i ≡ f i
counted_first f n i lt = counted_at f 0 n i lt ∙ ap f (let same : 0 + i ≡ i = omega arith in same)

counted_past : (f : ℕ → ℕ) (k n i : ℕ) → n ≤ i → slice_index (counted f k n) i ≡ 0
counted_past f k zero i le = refl
counted_past f k (suc n) zero le = absurd (let no : ⊥ = omega (arith, le) in no)
counted_past f k (suc n) (suc i) le = counted_past f (k + 1) n i (omega (arith, le))

is_stride : (fields : ℕ) → IsStride (stride_of fields)
is_stride fields =
    ⊎_elim
    (λ (one : nat_le fields 1 ≡ true). rw one (inl refl))
    (λ (more : nat_le fields 1 ≡ false). ⊎_elim
    (λ (two : nat_le fields 2 ≡ true). rw (more, two) (inr (inl refl)))
    (λ (four : nat_le fields 2 ≡ false). rw (more, four) (inr (inr refl)))
    (cases_Bool (nat_le fields 2)))
    (cases_Bool (nat_le fields 1))

has_room : (fields : ℕ) → fields ≤ 4 → fields ≤ stride_of fields
has_room fields few =
    ⊎_elim
    (λ (one : nat_le fields 1 ≡ true). rw one (let le : fields ≤ 1 = grind (arith, nat_tests) in le))
    (λ (more : nat_le fields 1 ≡ false). ⊎_elim
    (λ (two : nat_le fields 2 ≡ true). rw (more, two) (let le : fields ≤ 2 = grind (arith, nat_tests) in le))
    (λ (four : nat_le fields 2 ≡ false). rw (more, four) few)
    (cases_Bool (nat_le fields 2)))
    (cases_Bool (nat_le fields 1))

group_few : (n k : ℕ) (fields : List FieldDecl) → has_groups n fields ≡ true → k < n → length (fields_of k fields) ≤ 4
group_few zero k fields are lt = absurd (let no : ⊥ = omega (arith, lt) in no)
group_few (suc n) k fields are lt =
    let parts = and_parts (has_between 1 most_fields (fields_of n fields)) (has_groups n fields) are in
    ⊎_elim
    (λ (less : k < n). group_few n k fields parts.1 less)
    (λ (past : n ≤ k).
    let same : k ≡ n = omega (arith, lt, past) in
    let count : has_between 1 4 (fields_of n fields) ≡ true = parts.0 in
    let few : length (fields_of n fields) ≤ 4 = grind (arith, nat_tests) in
    subst (λ (m : ℕ). length (fields_of m fields) ≤ 4) (sym same) few)
    (cases_lt k n)

record AreFew (text : Text) : Type 0 where
  fields : (k : ℕ) → k < length text.kinds → field_count text k ≤ 4
  roots : length text.roots ≤ 256

are_few : (text : Text) → IsWithinLimits text → AreFew text
are_few text within =
    let kinds = length text.kinds in
    let owners = owners_of text.nodes in
    let ops = are_ops kinds (length text.fields) (length text.roots) text.ops in
    let after_kinds = and_parts (are_kinds text.kinds) (are_fields kinds text.fields && (are_nodes kinds text.fields text.nodes && (are_roots kinds owners text.roots && ops))) within in
    let after_fields = and_parts (are_fields kinds text.fields) (are_nodes kinds text.fields text.nodes && (are_roots kinds owners text.roots && ops)) after_kinds.1 in
    let after_nodes = and_parts (are_nodes kinds text.fields text.nodes) (are_roots kinds owners text.roots && ops) after_fields.1 in
    let roots = and_parts (are_roots kinds owners text.roots) ops after_nodes.1 in
    let rising = is_rising (map (λ (field : FieldDecl). field.owner) text.fields) in
    let names = list_all (is_field kinds) text.fields && are_different (map (λ (field : FieldDecl). field.name) text.fields) in
    let groups = and_parts (has_groups kinds text.fields) names (and_parts rising (has_groups kinds text.fields && names) after_fields.0).1 in
    let named = list_all (is_root kinds owners) text.roots && are_different (map (λ (root : RootDecl). root.name) text.roots) in
    let count : has_between 1 256 text.roots ≡ true = (and_parts (has_between 1 most_roots text.roots) named roots.0).0 in
    record { fields = λ k lt. group_few kinds k text.fields groups.0 lt; roots = grind (arith, nat_tests) }

enough : (text : Text) (k : ℕ) → AreFew text → slice_index (counted (field_count text) 0 (length text.kinds)) k ≤ slice_index (strides_of text) k
enough text k few =
    let n = length text.kinds in
    ⊎_elim
    (λ (lt : k < n).
    let fields : slice_index (counted (field_count text) 0 n) k ≡ field_count text k = counted_first (field_count text) n k lt in
    let stride : slice_index (strides_of text) k ≡ kind_stride text k = counted_first (kind_stride text) n k lt in
    let room : field_count text k ≤ kind_stride text k = has_room (field_count text k) (few.fields k lt) in
    omega (arith, fields, stride, room))
    (λ (past : n ≤ k).
    let none : slice_index (counted (field_count text) 0 n) k ≡ 0 = counted_past (field_count text) 0 n k past in
    omega (arith, none))
    (cases_lt k n)

has_strides : (text : Text) (pool : Pool) → AreFew text → IsPoolOf text pool → HasStrides pool (strides_of text)
has_strides text pool few is = record {
  kinds = is.kinds;
  slots = is.slots;
  cells = (let count : pool.sizes.cells ≡ length text.roots = is.cells in let most : length text.roots ≤ 256 = few.roots in omega (arith, count, most));
  stride = λ k lt. subst IsStride (sym (counted_first (kind_stride text) (length text.kinds) k (subst (λ (n : ℕ). k < n) is.count lt))) (is_stride (field_count text k));
  fields = λ k. subst (λ (counts : List ℕ). slice_index counts k ≤ slice_index (strides_of text) k) (sym is.fields) (enough text k few);
  none = λ k past. ap (λ (counts : List ℕ). slice_index counts k) is.fields ∙ counted_past (field_count text) 0 (length text.kinds) k (subst (λ (n : ℕ). n ≤ k) is.count past);
}

pub places_apart : EmittedPlacesStandApart
places_apart text pool within is = lvalues_apart pool (strides_of text) (has_strides text pool (are_few text within) is)
