-- The slots of initial nodes.
use Rattle.std.proofs.Common.{◌≡◌, ℕ, zero, suc, ◌+◌, ◌-◌, ◌≤◌, ◌<◌, true, List, [], ◌∷◌, length, refl, sym, ◌∙◌, ap, subst, arith}
use Rattle.std.specs.Prelude.{nat_lt, slice_index, slice_get}
use Rattle.std.proofs.lemmas.Bool.Decides.{nat_tests}
use Rattle.oa_words.specs.Words.{Sizes, IsSlot}
use Rattle.oa_words.specs.SlotKinds.{together, sum_before, kind_in, slots_of, first_of, range_of, kind_of}
use Rattle.oa_words.specs.Starts.{Beginning, Suits, nodes_of, node_of, start_node, first_home}
use Rattle.oa_words.proofs.KindRanges.{part_of, in_range_is_of_kind, range_is_within}
use Rattle.oa_words.specs.Within.{AreKinds}
use Rattle.oa_words.specs.Laws.{NodesHaveHomes}

-- so many nodes of each kind, none more than its slots
abbrev Fit : Sizes → List ℕ → Type 0
Fit n counts = (t : ℕ) → t < length n.kinds → slice_index counts t ≤ slots_of n t

-- an initial node stands in the range of its kind
pub home_in_range : (n : Sizes) (counts : List ℕ) → Fit n counts → (j : ℕ) → j < together counts → kind_in counts (suc j) < length n.kinds
    → IsSlot (range_of n (kind_in counts (suc j))) (first_home n counts (suc j))
home_in_range n counts fits j lt known =
    let part = part_of counts (suc j) (omega arith) (omega (arith, lt)) in
    let low = part.0 in
    let high = part.1 in
    let room = fits (kind_in counts (suc j)) known in (omega arith, omega (arith, low, high, room))

pub home_is_of_kind : (n : Sizes) (counts : List ℕ) → Fit n counts → (j : ℕ) → j < together counts → kind_in counts (suc j) < length n.kinds
    → kind_of n (first_home n counts (suc j)) ≡ kind_in counts (suc j)
home_is_of_kind n counts fits j lt known = in_range_is_of_kind n (kind_in counts (suc j)) (first_home n counts (suc j)) known (home_in_range n counts fits j lt known)

pub home_is_slot : (n : Sizes) (counts : List ℕ) → AreKinds n → Fit n counts → (j : ℕ) → j < together counts → kind_in counts (suc j) < length n.kinds
    → (1 ≤ first_home n counts (suc j)) × (first_home n counts (suc j) ≤ n.slots)
home_is_slot n counts are fits j lt known = range_is_within n (kind_in counts (suc j)) (first_home n counts (suc j)) are (home_in_range n counts fits j lt known)

-- the node in a slot, by its kind and its place among those of its kind
node_in_slot : (n : Sizes) (start : Beginning) (slot t place : ℕ) → kind_of n slot ≡ t → slot ≡ first_of n t + place → start_node n start slot ≡ node_of start t place
node_in_slot n start zero t place kind is = absurd (omega (arith, is))
node_in_slot n start (suc j) t place kind is =
    ap (λ (k : ℕ). node_of start k (suc j - first_of n k)) kind
    ∙ ap (node_of start t) (omega (arith, is))

node_at_place : (start : Beginning) (t place j : ℕ) → place < nodes_of start t → sum_before start.counts t + place ≡ j → node_of start t place ≡ slice_get start.nodes j
node_at_place start t place j lt is =
    let test : nat_lt place (nodes_of start t) ≡ true = grind (arith, nat_tests) in
    rw test (ap (slice_get start.nodes) is)

-- in its slot stands the node
pub node_at_home : (n : Sizes) (start : Beginning) → Fit n start.counts → (j : ℕ) → j < together start.counts → kind_in start.counts (suc j) < length n.kinds
    → start_node n start (first_home n start.counts (suc j)) ≡ slice_get start.nodes j
node_at_home n start fits j lt known =
    let part = part_of start.counts (suc j) (omega arith) (omega (arith, lt)) in
    let low = part.0 in
    let high = part.1 in
    node_in_slot n start (first_home n start.counts (suc j)) (kind_in start.counts (suc j)) (j - sum_before start.counts (kind_in start.counts (suc j))) (home_is_of_kind n start.counts fits j lt known) refl
    ∙ node_at_place start (kind_in start.counts (suc j)) (j - sum_before start.counts (kind_in start.counts (suc j))) j (omega (arith, low, high)) (omega (arith, low))

-- different nodes stand in different slots
same_place : (n : Sizes) (counts : List ℕ) (i j t : ℕ) → sum_before counts t ≤ i → sum_before counts t ≤ j → first_of n t + (i - sum_before counts t) ≡ first_of n t + (j - sum_before counts t) → i ≡ j
same_place n counts i j t low less is = omega (arith, low, less, is)

pub homes_apart : (n : Sizes) (counts : List ℕ) → Fit n counts → (i j : ℕ) → i < together counts → j < together counts → kind_in counts (suc i) < length n.kinds → kind_in counts (suc j) < length n.kinds
    → first_home n counts (suc i) ≡ first_home n counts (suc j) → i ≡ j
homes_apart n counts fits i j lt less known also is =
    let one = home_is_of_kind n counts fits i lt known in
    let two = home_is_of_kind n counts fits j less also in
    let kinds : kind_in counts (suc i) ≡ kind_in counts (suc j) = sym one ∙ ap (kind_of n) is ∙ two in
    let low = (part_of counts (suc i) (omega arith) (omega (arith, lt))).0 in
    let down = (part_of counts (suc j) (omega arith) (omega (arith, less))).0 in
    let there : first_of n (kind_in counts (suc j)) + (i - sum_before counts (kind_in counts (suc j))) ≡ first_of n (kind_in counts (suc j)) + (j - sum_before counts (kind_in counts (suc j)))
    = subst (λ (k : ℕ). first_of n k + (i - sum_before counts k) ≡ first_home n counts (suc j)) kinds is in
    let under : sum_before counts (kind_in counts (suc j)) < suc i = subst (λ (k : ℕ). sum_before counts k < suc i) kinds low in
    same_place n counts i j (kind_in counts (suc j)) (omega (arith, under)) (omega (arith, down)) there

pub nodes_have_homes : (n : Sizes) (start : Beginning) → AreKinds n → Suits n start → NodesHaveHomes n start
nodes_have_homes n start are suits = record {
  stands = node_at_home n start suits.nodes;
  kind = home_is_of_kind n start.counts suits.nodes;
  within = home_is_slot n start.counts are suits.nodes;
  apart = homes_apart n start.counts suits.nodes;
}

-- ---- the first kind

none_before : (counts : List ℕ) → sum_before counts 0 ≡ 0
none_before [] = refl
none_before (count ∷ counts) = refl
