-- The initial nodes of a target stand in the order of their kinds: so the kind of each is told by its number and by how many there are of
-- each kind.
use Rattle.std.proofs.Common.{◌≡◌, ◌≢◌, ℕ, zero, suc, ◌+◌, ◌≤◌, ◌<◌, ◌==◌, ◌&&◌, Bool, true, false, List, [], ◌∷◌, length, Some, None, refl, sym, ◌∙◌, ap, arith, ⊎_elim, if◌then◌else◌}
use Rattle.std.specs.Prelude.{slice_get, slice_index, nat_le, nat_lt}
use Rattle.std.specs.List.{list_all}
use Rattle.std.proofs.lemmas.Bool.{and_parts, cases_eq, cases_lt, leb-true, ltb-true}
use Rattle.std.proofs.lemmas.Bool.Decides.{nat_tests}
use Rattle.std.proofs.lemmas.Option.{same_Some}
use Rattle.norm_lang.specs.declared.text.FieldDecl.{FieldDecl}
use Rattle.norm_lang.specs.declared.text.NodeDecl.{NodeDecl}
use Rattle.norm_lang.specs.KindFields.{fields_of}
use Rattle.norm_lang.specs.Limits.{has_between, is_rising, are_starts, owners_of, is_node, are_nodes}
use Rattle.target_laws.proofs.Filled.{item_passes}
use Rattle.target_code.specs.declared.target.Target.{Target}
use Rattle.oa_words.specs.SlotKinds.{together, sum_before, kind_in}
use Rattle.oa_words.proofs.KindRanges.{kind_at, part_within}
use Rattle.caller_parts.specs.KindCounts.{node_count, node_counts}

-- ---- nodes in the order of their kinds

-- how many are of kinds before one
before : ℕ → List NodeDecl → ℕ
before k [] = 0
before k (node ∷ nodes) = if nat_lt node.owner k then suc (before k nodes) else before k nodes

of_none : (nodes : List NodeDecl) → before 0 nodes ≡ 0
unfolding before
of_none [] = refl
of_none (node ∷ nodes) = let test : nat_lt node.owner 0 ≡ false = grind (arith, nat_tests) in rw test (of_none nodes)

-- those of a kind come on top
on_top : (k : ℕ) (nodes : List NodeDecl) → before (suc k) nodes ≡ before k nodes + node_count nodes k
unfolding before
on_top k [] = refl
on_top k (node ∷ nodes) = let rest : before (suc k) nodes ≡ before k nodes + node_count nodes k = on_top k nodes in ⊎_elim
    (λ (less : node.owner < k).
    let one : nat_lt node.owner k ≡ true = grind (arith, nat_tests) in
    let two : nat_lt node.owner (suc k) ≡ true = grind (arith, nat_tests) in
    let three : (node.owner == k) ≡ false = grind (arith, nat_tests) in
    rw (one, two, three) (omega (arith, rest)))
    (λ (most : k ≤ node.owner). ⊎_elim
    (λ (same : node.owner ≡ k).
    let one : nat_lt node.owner k ≡ false = grind (arith, nat_tests) in
    let two : nat_lt node.owner (suc k) ≡ true = grind (arith, nat_tests) in
    let three : (node.owner == k) ≡ true = grind (arith, nat_tests) in
    rw (one, two, three) (omega (arith, rest)))
    (λ (other : node.owner ≢ k).
    let one : nat_lt node.owner k ≡ false = grind (arith, nat_tests) in
    let two : nat_lt node.owner (suc k) ≡ false = grind (arith, nat_tests) in
    let three : (node.owner == k) ≡ false = grind (arith, nat_tests) in
    rw (one, two, three) rest)
    (cases_eq node.owner k))
    (cases_lt node.owner k)

rising_rest : (first : NodeDecl) (nodes : List NodeDecl) → is_rising (owners_of (first ∷ nodes)) ≡ true → is_rising (owners_of nodes) ≡ true
rising_rest first [] rising = refl
rising_rest first (next ∷ nodes) rising = (and_parts (nat_le first.owner next.owner) (is_rising (owners_of (next ∷ nodes))) rising).1

rising_next : (first next : NodeDecl) (nodes : List NodeDecl) → is_rising (owners_of (first ∷ (next ∷ nodes))) ≡ true → first.owner ≤ next.owner
rising_next first next nodes rising = leb-true first.owner next.owner (and_parts (nat_le first.owner next.owner) (is_rising (owners_of (next ∷ nodes))) rising).0

-- the first is of the least kind
least : (first : NodeDecl) (nodes : List NodeDecl) (i : ℕ) (node : NodeDecl) → is_rising (owners_of (first ∷ nodes)) ≡ true → slice_get nodes i ≡ Some node → first.owner ≤ node.owner
least first [] i node rising there = absurd (let no : None ≡ Some node = there in cc)
least first (next ∷ nodes) zero node rising there =
    let le = rising_next first next nodes rising in
    let same : next.owner ≡ node.owner = ap (λ (n : NodeDecl). n.owner) (same_Some next node there) in omega (arith, le, same)
least first (next ∷ nodes) (suc i) node rising there =
    let le = rising_next first next nodes rising in
    let rest = least next nodes i node (rising_rest first (next ∷ nodes) rising) there in omega (arith, le, rest)

none_before : (k : ℕ) (first : NodeDecl) (nodes : List NodeDecl) → is_rising (owners_of (first ∷ nodes)) ≡ true → k ≤ first.owner → before k nodes ≡ 0
unfolding before
none_before k first [] rising le = refl
none_before k first (next ∷ nodes) rising le =
    let up = rising_next first next nodes rising in
    let most : k ≤ next.owner = omega (arith, le, up) in
    let test : nat_lt next.owner k ≡ false = grind (arith, nat_tests) in
    rw test (none_before k next nodes (rising_rest first (next ∷ nodes) rising) most)

-- no more are of kinds before a node's than stand before it
stands_after : (nodes : List NodeDecl) (i : ℕ) (node : NodeDecl) → is_rising (owners_of nodes) ≡ true → slice_get nodes i ≡ Some node → before node.owner nodes ≤ i
unfolding before
stands_after [] i node rising there = absurd (let no : None ≡ Some node = there in cc)
stands_after (first ∷ nodes) zero node rising there =
    let same : first.owner ≡ node.owner = ap (λ (n : NodeDecl). n.owner) (same_Some first node there) in
    let test : nat_lt first.owner node.owner ≡ false = grind (arith, nat_tests) in
    let none = none_before node.owner first nodes rising (omega (arith, same)) in
    rw test (omega (arith, none))
stands_after (first ∷ nodes) (suc i) node rising there = of (nat_lt first.owner node.owner) (stands_after nodes i node (rising_rest first nodes rising) there)
  where
    of : (b : Bool) → before node.owner nodes ≤ i → (if b then suc (before node.owner nodes) else before node.owner nodes) ≤ suc i
    of true rest = omega (arith, rest)
    of false rest = omega (arith, rest)

-- and it is one of those up to its kind
stands_within : (nodes : List NodeDecl) (i : ℕ) (node : NodeDecl) → is_rising (owners_of nodes) ≡ true → slice_get nodes i ≡ Some node → i < before (suc node.owner) nodes
unfolding before
stands_within [] i node rising there = absurd (let no : None ≡ Some node = there in cc)
stands_within (first ∷ nodes) zero node rising there =
    let same : first.owner ≡ node.owner = ap (λ (n : NodeDecl). n.owner) (same_Some first node there) in
    let test : nat_lt first.owner (suc node.owner) ≡ true = grind (arith, nat_tests) in
    rw test (omega arith)
stands_within (first ∷ nodes) (suc i) node rising there =
    let le = least first nodes i node rising there in
    let test : nat_lt first.owner (suc node.owner) ≡ true = grind (arith, nat_tests) in
    let rest = stands_within nodes i node (rising_rest first nodes rising) there in
    rw test (omega (arith, rest))

-- all of them, if each is of one of so many kinds
all_before : (kinds k : ℕ) (nodes : List NodeDecl) → list_all (λ (node : NodeDecl). nat_lt node.owner kinds) nodes ≡ true → kinds ≤ k → before k nodes ≡ length nodes
unfolding before
all_before kinds k [] all le = refl
all_before kinds k (node ∷ nodes) all le =
    let parts = and_parts (nat_lt node.owner kinds) (list_all (λ (node : NodeDecl). nat_lt node.owner kinds) nodes) all in
    let lt = ltb-true node.owner kinds parts.0 in
    let test : nat_lt node.owner k ≡ true = grind (arith, nat_tests) in
    rw test (ap suc (all_before kinds k nodes parts.1 le))

-- ---- counts

sum_is : (target : Target) (k : ℕ) → k ≤ 4 → sum_before (node_counts target) k ≡ before k target.nodes
sum_is target zero le = sym (of_none target.nodes)
sum_is target (suc zero) le = let a = of_none target.nodes in let b = on_top 0 target.nodes in omega (arith, a, b)
sum_is target (suc (suc zero)) le = let a = of_none target.nodes in let b = on_top 0 target.nodes in let c = on_top 1 target.nodes in omega (arith, a, b, c)
sum_is target (suc (suc (suc zero))) le =
    let a = of_none target.nodes in let b = on_top 0 target.nodes in let c = on_top 1 target.nodes in let d = on_top 2 target.nodes in omega (arith, a, b, c, d)
sum_is target (suc (suc (suc (suc zero)))) le =
    let a = of_none target.nodes in let b = on_top 0 target.nodes in let c = on_top 1 target.nodes in let d = on_top 2 target.nodes in let e = on_top 3 target.nodes in omega (arith, a, b, c, d, e)
sum_is target (suc (suc (suc (suc (suc k))))) le = absurd (let no : ⊥ = omega (arith, le) in no)

count_is : (target : Target) (k : ℕ) → k < 4 → slice_index (node_counts target) k ≡ node_count target.nodes k
count_is target (suc (suc (suc (suc k)))) lt = absurd (let no : ⊥ = omega (arith, lt) in no)
count_is target _ lt = refl

-- ---- the nodes of a target

-- what a target's limits say of its nodes
pub record NodesStand (target : Target) : Type 0 where
  pub few : length target.kinds ≤ 4
  pub order : is_rising (owners_of target.nodes) ≡ true
  pub each : list_all (is_node (length target.kinds) target.fields (owners_of target.nodes)) target.nodes ≡ true

pub nodes_stand : (target : Target) → length target.kinds ≤ 4 → are_nodes (length target.kinds) target.fields target.nodes ≡ true → NodesStand target
nodes_stand target few are =
    let each = list_all (is_node (length target.kinds) target.fields (owners_of target.nodes)) target.nodes in
    let rest = and_parts (has_between 0 256 target.nodes) (is_rising (owners_of target.nodes) && each) are in
    let both = and_parts (is_rising (owners_of target.nodes)) each rest.1 in
    record { few = few; order = both.0; each = both.1 }

-- a node is of one of the kinds, and has a first value for each field of its kind
pub record NodeIs (target : Target) (node : NodeDecl) : Type 0 where
  pub known : node.owner < length target.kinds
  pub starts : are_starts (owners_of target.nodes) (fields_of node.owner target.fields) node.values ≡ true

pub node_is : (target : Target) (i : ℕ) (node : NodeDecl) → NodesStand target → slice_get target.nodes i ≡ Some node → NodeIs target node
node_is target i node stand there =
    let one = item_passes (is_node (length target.kinds) target.fields (owners_of target.nodes)) target.nodes i node stand.each there in
    let both = and_parts (nat_lt node.owner (length target.kinds)) (are_starts (owners_of target.nodes) (fields_of node.owner target.fields) node.values) one in
    record { known = ltb-true node.owner (length target.kinds) both.0; starts = both.1 }

-- its number is in the part of its kind
pub record NodeAt (target : Target) (i : ℕ) (node : NodeDecl) : Type 0 where
  pub kind : kind_in (node_counts target) (suc i) ≡ node.owner
  pub low : sum_before (node_counts target) node.owner ≤ i
  pub high : i < sum_before (node_counts target) node.owner + slice_index (node_counts target) node.owner
  pub within : i < together (node_counts target)

pub node_at : (target : Target) (i : ℕ) (node : NodeDecl) → NodesStand target → slice_get target.nodes i ≡ Some node → NodeAt target i node
node_at target i node stand there = record { kind = kind_at (node_counts target) k (suc i) four (omega (arith, low)) (omega (arith, high)); low = low; high = high; within = omega (arith, high, all) } where
  k : ℕ
  k = node.owner

  four : k < 4
  four = let known = (node_is target i node stand there).known in let few = stand.few in omega (arith, known, few)

  sum : sum_before (node_counts target) k ≡ before k target.nodes
  sum = sum_is target k (omega (arith, four))

  low : sum_before (node_counts target) k ≤ i
  low = let after = stands_after target.nodes i node stand.order there in omega (arith, after, sum)

  high : i < sum_before (node_counts target) k + slice_index (node_counts target) k
  high =
      let below = stands_within target.nodes i node stand.order there in
      let top = on_top k target.nodes in
      let count = count_is target k four in omega (arith, below, top, count, sum)

  all : sum_before (node_counts target) k + slice_index (node_counts target) k ≤ together (node_counts target)
  all = part_within (node_counts target) k

-- a node whose number is in the part of a kind is of it
pub node_of_part : (target : Target) (t i : ℕ) (node : NodeDecl) → NodesStand target → slice_get target.nodes i ≡ Some node → t < 4 → sum_before (node_counts target) t ≤ i
    → i < sum_before (node_counts target) t + slice_index (node_counts target) t → node.owner ≡ t
node_of_part target t i node stand there lt low high =
    sym (node_at target i node stand there).kind ∙ kind_at (node_counts target) t (suc i) lt (omega (arith, low)) (omega (arith, high))

all_known : (kinds : ℕ) (fields : List FieldDecl) (owners : List ℕ) (nodes : List NodeDecl) → list_all (is_node kinds fields owners) nodes ≡ true → list_all (λ (node : NodeDecl). nat_lt node.owner kinds) nodes ≡ true
all_known kinds fields owners [] all = refl
all_known kinds fields owners (node ∷ nodes) all =
    let parts = and_parts (is_node kinds fields owners node) (list_all (is_node kinds fields owners) nodes) all in
    let one = (and_parts (nat_lt node.owner kinds) (are_starts owners (fields_of node.owner fields) node.values) parts.0).0 in
    rw one (all_known kinds fields owners nodes parts.1)

-- the counts are of all nodes
pub nodes_together : (target : Target) → NodesStand target → together (node_counts target) ≡ length target.nodes
nodes_together target stand =
    let all = all_before (length target.kinds) 4 target.nodes (all_known (length target.kinds) target.fields (owners_of target.nodes) target.nodes stand.each) stand.few in
    let sum = sum_is target 4 (omega arith) in omega (arith, all, sum)
