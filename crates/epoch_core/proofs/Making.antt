-- A shape and a setting whose numbers are in their ranges are made.
use Rattle.std.proofs.Common.{◌≡◌, ℕ, zero, suc, ◌≤◌, ◌<◌, ◌^◌, true, ◌&&◌, length, Ok, Err, refl, sym, ap, ◌∙◌, arith}
use Rattle.std.proofs.lemmas.Bool.Decides.{nat_tests}
use Rattle.std.specs.Prelude.{List, [], ◌∷◌, nat_le, slice_index, take, IsTrue}
use Rattle.std.specs.List.{list_all}
use Rattle.norm_lang.specs.declared.text.Text.{Text}
use Rattle.oa_words.specs.Words.{Sizes}
use Rattle.oa_words.specs.SlotKinds.{slots_of, together}
use Rattle.oa_words.specs.Within.{AreSizes, AreSmall, is_count, sizes_of_kinds, sizes_or_fault}
use Rattle.oa_words.specs.declared.limits.TheConstants.{TOPS}
use Rattle.oa_words.specs.declared.shape.ShapeFault.{ShapeFault}
use Rattle.caller_parts.specs.declared.setting.SettingFault.{SettingFault}
use Rattle.caller_parts.specs.Settings.{Setting, IsSetting, are_phases, have_slots, setting_or_fault}
use Rattle.norm_lang.specs.Limits.{IsWithinLimits, has_between, are_kinds, are_fields, are_nodes, are_roots, are_ops, owners_of}
use Rattle.norm_paths.proofs.Within.{and_left, and_right}

test : (n m : ℕ) → n ≤ m → nat_le n m ≡ true
test n m le = grind (arith, nat_tests)

have : (sizes : Sizes) (nodes : List ℕ) (t : ℕ) → ((k : ℕ) → k < t → slice_index nodes k ≤ slots_of sizes k) → have_slots sizes nodes t ≡ true
have sizes nodes zero each = refl
have sizes nodes (suc t) each =
    rw (have sizes nodes t (λ k lt. each k (omega (arith, lt)))) (test (slice_index nodes t) (slots_of sizes t) (each t (omega arith)))

phases : (first last : ℕ) → 1 ≤ first → first ≤ last → last ≤ 2 ^ 50 → are_phases first last ≡ true
phases first last some up few = rw (test 1 first some, test first last up, test last (2 ^ 50) few) refl

made : (setting : Setting) → IsSetting setting → setting.last ≤ 2 ^ 50 → setting_or_fault setting ≡ Ok setting
made setting own few =
    rw (have setting.sizes setting.nodes (length setting.sizes.kinds) own.nodes, phases setting.first setting.last own.first own.phases few) refl

pub is_made : (setting result : Setting) → IsSetting setting → setting.last ≤ 2 ^ 50 → Ok result ≡ setting_or_fault setting → result ≡ setting
is_made setting result own few is = let same : Ok result ≡ Ok setting = is ∙ made setting own few in cc

pub never_refused : (setting : Setting) (fault : SettingFault) → IsSetting setting → setting.last ≤ 2 ^ 50 → Err fault ≡ setting_or_fault setting → ⊥
never_refused setting fault own few is = let no : Err fault ≡ Ok setting = is ∙ made setting own few in cc

pub few_nodes : (text : Text) → IsWithinLimits text → length text.nodes < 2 ^ 32
few_nodes text within =
    let ops = are_ops (length text.kinds) (length text.fields) (length text.roots) text.ops in
    let roots = are_roots (length text.kinds) (owners_of text.nodes) text.roots in
    let nodes = are_nodes (length text.kinds) text.fields text.nodes in
    let fields = are_fields (length text.kinds) text.fields in
    let between = and_left nodes (roots && ops) (and_right fields (nodes && (roots && ops)) (and_right (are_kinds text.kinds) (fields && (nodes && (roots && ops))) within)) in
    let most : IsTrue (nat_le (length text.nodes) 256) = and_right (nat_le 0 (length text.nodes)) (nat_le (length text.nodes) 256) (and_left (has_between 0 256 text.nodes) _ between) in
    grind (arith, nat_tests)

-- ---- the shape

pub none_past : (kinds : List ℕ) (t : ℕ) → length kinds ≤ t → 0 ≡ slice_index kinds t
none_past [] t le = refl
none_past (k ∷ kinds) zero le = absurd (omega (arith, le))
none_past (k ∷ kinds) (suc t) le = none_past kinds t (omega (arith, le))

-- the first four numbers of a list of at most four, cut to its length
four : (kinds : List ℕ) → length kinds ≤ 4 → take (length kinds) (slice_index kinds 0 ∷ slice_index kinds 1 ∷ slice_index kinds 2 ∷ slice_index kinds 3 ∷ []) ≡ kinds
four (a ∷ b ∷ c ∷ d ∷ e ∷ more) le = absurd (omega (arith, le))
four _ le = refl

count : (most n : ℕ) → 1 ≤ n → n ≤ most → is_count most n ≡ true
count most n some few = rw (test 1 n some, test n most few) refl

all_counts : (kinds : List ℕ) → ((t : ℕ) → t < length kinds → 1 ≤ slice_index kinds t) → together kinds ≤ 4096 → list_all (is_count 4096) kinds ≡ true
all_counts [] each few = refl
all_counts (k ∷ kinds) each few =
    rw (count 4096 k (each 0 (omega arith)) (omega (arith, few))) (all_counts kinds (λ t lt. each (suc t) (omega (arith, lt))) (omega (arith, few)))

sizes : (n : Sizes) → AreSizes n → AreSmall n → sizes_or_fault (length n.kinds) n ≡ Ok n
sizes n own small =
    let kinds = own.kinds in
    let whole : together n.kinds ≡ n.slots = kinds.whole in
    let few : n.slots ≤ 4096 = small.slots in
    rw (
      count 8 n.callers own.callers small.callers,
      count 4 (length n.kinds) kinds.some kinds.few,
      all_counts n.kinds kinds.each (omega (arith, whole, few)),
      test n.slots 4096 few,
      count 4 n.fields own.fields small.fields,
      count 256 n.cells own.cells small.cells,
    ) refl

abbrev asked : Sizes → Sizes
asked n = sizes_of_kinds n.callers (take (length n.kinds) (slice_index n.kinds 0 ∷ slice_index n.kinds 1 ∷ slice_index n.kinds 2 ∷ slice_index n.kinds 3 ∷ [])) n.fields n.cells

same : (n : Sizes) → AreSizes n → AreSmall n → asked n ≡ n
same n own small =
    ap (λ (kinds : List ℕ). sizes_of_kinds n.callers kinds n.fields n.cells) (four n.kinds own.kinds.few)
    ∙ (ap (λ (slots : ℕ). record n { slots = slots; tops = TOPS }) own.kinds.whole ∙ ap (λ (tops : ℕ). record n { tops = tops }) (sym small.tops))

made_shape : (n : Sizes) → AreSizes n → AreSmall n → sizes_or_fault (length n.kinds) (asked n) ≡ Ok n
made_shape n own small = ap (sizes_or_fault (length n.kinds)) (same n own small) ∙ sizes n own small

pub is_copied : (n shape : Sizes) → AreSizes n → AreSmall n → Ok shape ≡ sizes_or_fault (length n.kinds) (asked n) → shape ≡ n
is_copied n shape own small is = let same : Ok shape ≡ Ok n = is ∙ made_shape n own small in cc

pub never_shapeless : (n : Sizes) (fault : ShapeFault) → AreSizes n → AreSmall n → Err fault ≡ sizes_or_fault (length n.kinds) (asked n) → ⊥
never_shapeless n fault own small is = let no : Err fault ≡ Ok n = is ∙ made_shape n own small in cc
