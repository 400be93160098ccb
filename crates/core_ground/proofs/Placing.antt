-- Where the slots of each kind begin and end, and which initial node stands in a slot.
use Rattle.std.proofs.Common.{◌≡◌, ℕ, zero, suc, ◌+◌, ◌-◌, ◌≤◌, ◌<◌, min, true, false, List, [], ◌∷◌, drop, length, Option, None, refl, sym, ap, ◌∙◌, subst, arith}
use Rattle.std.specs.Prelude.{nat_le, nat_lt, slice_get, slice_index, option_map}
use Rattle.std.proofs.lemmas.Bool.Decides.{nat_tests}
use Rattle.std.proofs.lemmas.Option.{slice_get-map}
use Rattle.norm_lang.specs.declared.text.NodeDecl.{NodeDecl}
use Rattle.target_code.specs.declared.target.Target.{Target}
use Rattle.oa_words.specs.Words.{Sizes}
use Rattle.oa_words.specs.SlotKinds.{sum_before, kind_in, slots_of, first_of, range_of, kind_of}
use Rattle.oa_words.specs.Starts.{start_node}
use Rattle.oa_words.specs.Within.{AreSizes, AreSmall, AreKinds}
use Rattle.oa_words.proofs.Counts.{ends_at_last, ends_within}
use Rattle.oa_words.proofs.KindRanges.{part_within, parts_follow, of_kind_is_in_range}
use Rattle.caller_parts.specs.Settings.{Setting}
use Rattle.core_runs.specs.Machine.{node_words}
use Rattle.core_ground.specs.Starts.{home_in, start_of}

plus_one : (n : ℕ) → n + 1 ≡ suc n
plus_one n = omega arith

-- ---- the first slot of a kind

pub none_before : (counts : List ℕ) → sum_before counts 0 ≡ 0
none_before [] = refl
none_before (count ∷ counts) = refl

pub one_more : (counts : List ℕ) (t : ℕ) → sum_before counts (t + 1) ≡ sum_before counts t + slice_index counts t
one_more counts t = ap (sum_before counts) (plus_one t) ∙ parts_follow counts t

pub first_none : (n : Sizes) → 1 ≡ first_of n 0
first_none n = let none = none_before n.kinds in omega (arith, none)

pub first_more : (n : Sizes) (t first slots : ℕ) → first ≡ first_of n t → slots ≡ slots_of n t → first + slots ≡ first_of n (t + 1)
first_more n t first slots was is = let more = one_more n.kinds t in omega (arith, was, is, more)

pub first_few : (n : Sizes) (t : ℕ) → AreSizes n → AreSmall n → first_of n t ≤ 4097
first_few n t are small =
    let part = part_within n.kinds t in
    let whole = are.kinds.whole in
    let most = small.slots in omega (arith, part, whole, most)

past_all : (counts : List ℕ) (t : ℕ) → sum_before counts (min t (length counts)) ≡ sum_before counts t
past_all [] zero = refl
past_all [] (suc t) = refl
past_all (count ∷ counts) zero = let none : min 0 (suc (length counts)) ≡ 0 = omega arith in ap (sum_before (count ∷ counts)) none
past_all (count ∷ counts) (suc t) =
    let more : min (suc t) (suc (length counts)) ≡ suc (min t (length counts)) = omega arith in
    ap (sum_before (count ∷ counts)) more ∙ ap (λ (s : ℕ). count + s) (past_all counts t)

-- past the kinds there are no slots
pub first_whole : (n : Sizes) (t first : ℕ) → first ≡ first_of n (min t (length n.kinds)) → first ≡ first_of n t
first_whole n t first is = is ∙ ap (λ (s : ℕ). 1 + s) (past_all n.kinds t)

pub last_few : (n : Sizes) (t : ℕ) → AreSizes n → (range_of n t).last ≤ n.slots
last_few n t are = let part = part_within n.kinds t in let whole = are.kinds.whole in omega (arith, part, whole)

-- ---- the kind of a slot

null_in : (counts : List ℕ) → kind_in counts 0 ≡ 0
null_in [] = refl
null_in (count ∷ []) = refl
null_in (count ∷ (next ∷ counts)) = let test : nat_le 0 count ≡ true = grind (arith, nat_tests) in rw test refl

pub null_kind : (n : Sizes) → 0 ≡ kind_of n 0
null_kind n = sym (null_in n.kinds)

-- ---- initial nodes

pub nodes_more : (counts : List ℕ) (t before count : ℕ) → before ≡ sum_before counts t → count ≡ slice_index counts t → before + count ≡ sum_before counts (t + 1)
nodes_more counts t before count was is = let more = one_more counts t in omega (arith, was, is, more)

-- the search for the kind of an initial node has come to a kind, and so many are left
abbrev pub Searched : List ℕ → ℕ → ℕ → ℕ → Type 0
Searched counts node kind left = record {
  told : kind + kind_in (drop kind counts) left ≡ kind_in counts node;
  placed : sum_before counts kind + left ≡ node;
  some : 1 ≤ left;
}

-- a kind that ends before the node is passed
past_kind : (counts : List ℕ) (kind left : ℕ) → kind + 1 < length counts → slice_index counts kind < left
    → kind_in (drop kind counts) left ≡ suc (kind_in (drop (suc kind) counts) (left - slice_index counts kind))
past_kind [] kind left lt less = absurd (omega (arith, lt))
past_kind (count ∷ []) zero left lt less = absurd (omega (arith, lt))
past_kind (count ∷ []) (suc kind) left lt less = absurd (omega (arith, lt))
past_kind (count ∷ (next ∷ counts)) zero left lt less = let test : nat_le left count ≡ false = grind (arith, nat_tests) in rw test refl
past_kind (count ∷ (next ∷ counts)) (suc kind) left lt less = past_kind (next ∷ counts) kind left (omega (arith, lt)) less

pub searched_more : (counts : List ℕ) (node kind left : ℕ) → Searched counts node kind left → kind + 1 < length counts → slice_index counts kind < left
    → Searched counts node (kind + 1) (left - slice_index counts kind)
searched_more counts node kind left so lt less =
    let told = so.told in
    let placed = so.placed in
    let passed = past_kind counts kind left lt less in
    let on : kind_in (drop (kind + 1) counts) (left - slice_index counts kind) ≡ kind_in (drop (suc kind) counts) (left - slice_index counts kind) =
    ap (λ (k : ℕ). kind_in (drop k counts) (left - slice_index counts kind)) (plus_one kind) in
    let before = one_more counts kind in
    record {
      told = omega (arith, told, passed, on);
      placed = omega (arith, placed, before, less);
      some = omega (arith, less);
    }

home_so : (setting : Setting) (node kind left : ℕ) → kind ≡ kind_in setting.nodes node → sum_before setting.nodes kind + left ≡ node → 1 ≤ left
    → first_of setting.sizes kind + (left - 1) ≡ home_in setting node
home_so setting zero kind left is placed some = absurd (omega (arith, placed, some))
home_so setting (suc j) kind left is placed some =
    let back : left - 1 ≡ j - sum_before setting.nodes kind = omega (arith, placed, some) in
    ap (λ (b : ℕ). first_of setting.sizes kind + b) back ∙ ap (λ (k : ℕ). first_of setting.sizes k + (j - sum_before setting.nodes k)) is

pub home_at_last : (setting : Setting) (node kind left : ℕ) → Searched setting.nodes node kind left → length setting.nodes ≤ kind + 1 → first_of setting.sizes kind + (left - 1) ≡ home_in setting node
home_at_last setting node kind left so few = home_so setting node kind left (ends_at_last setting.nodes kind left (kind_in setting.nodes node) so.told few) so.placed so.some

pub home_within : (setting : Setting) (node kind left : ℕ) → Searched setting.nodes node kind left → left ≤ slice_index setting.nodes kind → first_of setting.sizes kind + (left - 1) ≡ home_in setting node
home_within setting node kind left so le = home_so setting node kind left (ends_within setting.nodes kind left (kind_in setting.nodes node) so.told le) so.placed so.some

-- a slot doesn't stand before the first of its kind
pub begins_before : (n : Sizes) (slot : ℕ) → AreKinds n → 1 ≤ slot → slot ≤ n.slots → first_of n (kind_of n slot) ≤ slot
begins_before n slot are some few = (of_kind_is_in_range n slot are some few).0

module _ (target : Target) (setting : Setting) where
  abbrev words_in : Option NodeDecl → Option (List ℕ)
  words_in node = option_map (node_words (home_in setting)) node

  pub node_null : words_in None ≡ start_node setting.sizes (start_of target setting) 0
  node_null = refl

  pub node_none : (slot kind place : ℕ) → 1 ≤ slot → kind ≡ kind_of setting.sizes slot → place ≡ slot - first_of setting.sizes kind → slice_index setting.nodes kind ≤ place
      → words_in None ≡ start_node setting.sizes (start_of target setting) slot
  node_none zero kind place some is at past = absurd (omega (arith, some))
  node_none (suc j) kind place some is at past =
      let here : place ≡ suc j - first_of setting.sizes (kind_of setting.sizes (suc j)) = at ∙ ap (λ (k : ℕ). suc j - first_of setting.sizes k) is in
      let beyond : slice_index setting.nodes (kind_of setting.sizes (suc j)) ≤ suc j - first_of setting.sizes (kind_of setting.sizes (suc j)) =
      subst (λ (k : ℕ). slice_index setting.nodes k ≤ suc j - first_of setting.sizes k) is (subst (λ (p : ℕ). slice_index setting.nodes kind ≤ p) at past) in
      let test : nat_lt (suc j - first_of setting.sizes (kind_of setting.sizes (suc j))) (slice_index setting.nodes (kind_of setting.sizes (suc j))) ≡ false = grind (arith, nat_tests) in
      rw test refl

  pub node_found : (slot kind place number : ℕ) (it : Option NodeDecl) → 1 ≤ slot → kind ≡ kind_of setting.sizes slot → place ≡ slot - first_of setting.sizes kind → place < slice_index setting.nodes kind
      → number ≡ sum_before setting.nodes kind + place → it ≡ slice_get target.nodes number → words_in it ≡ start_node setting.sizes (start_of target setting) slot
  node_found zero kind place number it some is at within numbered there = absurd (omega (arith, some))
  node_found (suc j) kind place number it some is at within numbered there =
      let below : suc j - first_of setting.sizes (kind_of setting.sizes (suc j)) < slice_index setting.nodes (kind_of setting.sizes (suc j)) =
      subst (λ (k : ℕ). suc j - first_of setting.sizes k < slice_index setting.nodes k) is (subst (λ (p : ℕ). p < slice_index setting.nodes kind) at within) in
      let test : nat_lt (suc j - first_of setting.sizes (kind_of setting.sizes (suc j))) (slice_index setting.nodes (kind_of setting.sizes (suc j))) ≡ true = grind (arith, nat_tests) in
      let same : number ≡ sum_before setting.nodes (kind_of setting.sizes (suc j)) + (suc j - first_of setting.sizes (kind_of setting.sizes (suc j))) =
      numbered ∙ ap (λ (p : ℕ). sum_before setting.nodes kind + p) at ∙ ap (λ (k : ℕ). sum_before setting.nodes k + (suc j - first_of setting.sizes k)) is in
      rw test (ap words_in (there ∙ ap (slice_get target.nodes) same) ∙ sym (slice_get-map (node_words (home_in setting)) target.nodes _))
