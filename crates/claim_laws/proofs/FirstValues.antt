-- A slot in which no initial node stands, which no first value names.
use Rattle.std.proofs.Common.{◌≡◌, ◌≢◌, ℕ, zero, suc, ◌+◌, ◌*◌, ◌/◌, ◌≤◌, ◌<◌, ◌∙◌, true, false, List, [], ◌∷◌, length, map, Some, sym, ap, subst, arith}
use Rattle.std.specs.Prelude.{slice_index}
use Rattle.std.specs.List.{list_all}
use Rattle.std.proofs.lemmas.Bool.{and_parts}
use Rattle.norm_lang.specs.declared.text.FieldKind.{FieldKind}
use Rattle.norm_lang.specs.declared.text.FieldKind.TheVariants as holdings
use Rattle.norm_lang.specs.declared.text.FieldDecl.{FieldDecl}
use Rattle.norm_lang.specs.declared.text.RootDecl.{RootDecl}
use Rattle.norm_lang.specs.declared.text.Start.{Start}
use Rattle.norm_lang.specs.declared.text.Start.TheVariants as starts
use Rattle.norm_lang.specs.InstructionRules.{field_kind, root_kind}
use Rattle.norm_lang.specs.Limits.{is_start, are_starts, is_root}
use Rattle.target_laws.proofs.OneKind.{root_start, start_known}
use Rattle.oa_words.specs.Words.{Sizes}
use Rattle.oa_words.specs.SlotKinds.{together, kind_in, slots_of, range_of, kind_of, range_at}
use Rattle.oa_words.specs.Starts.{first_home, first_ready}
use Rattle.oa_words.proofs.KindRanges.{part_of}
use Rattle.oa_words.proofs.Homes.{home_is_of_kind}
use Rattle.core_runs.specs.Machine.{value_word, root_word}
use Rattle.claim_laws.specs.Untouched.{ValueAvoids}

-- the home of an initial node isn't a slot that held none
pub home_is_other : (n : Sizes) (counts : List ℕ) → ((t : ℕ) → t < length n.kinds → slice_index counts t ≤ slots_of n t) → (i : ℕ) → i < together counts → kind_in counts (suc i) < length n.kinds
    → (j : ℕ) → first_ready (range_at n j) (slice_index counts (kind_of n j)) ≤ j → first_home n counts (suc i) ≢ j
home_is_other n counts fit i lt known j past same =
    let t = kind_in counts (suc i) in
    let kind : kind_of n j ≡ t = ap (kind_of n) (sym same) ∙ home_is_of_kind n counts fit i lt known in
    let from : first_ready (range_of n t) (slice_index counts t) ≤ j = subst (λ (k : ℕ). first_ready (range_of n k) (slice_index counts k) ≤ j) kind past in
    let part = part_of counts (suc i) (omega arith) (omega (arith, lt)) in
    let low = part.0 in
    let high = part.1 in
    omega (arith, same, from, low, high)

module _ (j : ℕ) (home : ℕ → ℕ) (kinds : ℕ) (owners : List ℕ) (others : (i : ℕ) → i ≤ length owners → home i ≢ j) where
  first_avoids : (kind : FieldKind) (start : Start) → is_start owners kind start ≡ true → ValueAvoids j (Some kind) (value_word home start)
  first_avoids holdings.Number start is = tt
  first_avoids (holdings.Reference k) (starts.Node i) is = λ same. others i (start_known owners k i is) (let slot : (2 * home i + 0) / 2 ≡ home i = omega arith in omega (arith, slot, same))
  first_avoids (holdings.Reference k) (starts.Value v) is = absurd (let e : false ≡ true = is in cc)

  -- of a node's fields
  pub fields_avoid : (fields : List FieldDecl) (values : List Start) (g : ℕ) → are_starts owners fields values ≡ true → ValueAvoids j (field_kind fields g) (slice_index (map (value_word home) values) g)
  fields_avoid [] values g is = tt
  fields_avoid (f ∷ fields) [] g is = absurd (let e : false ≡ true = is in cc)
  fields_avoid (f ∷ fields) (v ∷ values) zero is = first_avoids f.kind v (and_parts (is_start owners f.kind v) (are_starts owners fields values) is).0
  fields_avoid (f ∷ fields) (v ∷ values) (suc g) is = fields_avoid fields values g (and_parts (is_start owners f.kind v) (are_starts owners fields values) is).1

  -- and of the roots
  pub roots_avoid : (roots : List RootDecl) (x : ℕ) → list_all (is_root kinds owners) roots ≡ true → ValueAvoids j (root_kind roots x) (slice_index (map (root_word home) roots) x)
  roots_avoid [] x are = tt
  roots_avoid (root ∷ roots) zero are = first_avoids root.kind root.start (root_start kinds owners root (and_parts (is_root kinds owners root) (list_all (is_root kinds owners) roots) are).0)
  roots_avoid (root ∷ roots) (suc x) are = roots_avoid roots x (and_parts (is_root kinds owners root) (list_all (is_root kinds owners) roots) are).1
