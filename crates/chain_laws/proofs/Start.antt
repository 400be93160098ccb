-- The start: of each kind the slots after the initial nodes', in ascending order.
use Rattle.std.proofs.Common.{ℕ, zero, suc, ◌≡◌, ◌≢◌, ◌+◌, ◌-◌, ◌≤◌, ◌<◌, ◌⊎◌, ◌∙◌, ◌&&◌, Bool, true, false, List, [], ◌∷◌, length, Some, None, arith, inl, inr, sym, ap, subst, refl, ⊎_elim, if◌then◌else◌}
use Rattle.std.specs.Prelude.{nat_le, nat_lt, slice_index}
use Rattle.std.proofs.lemmas.Bool.{cases_eq, cases_lt}
use Rattle.std.proofs.lemmas.Bool.Decides.{nat_tests}
use Rattle.oa_words.specs.declared.packed.Kind.TheVariants as kinds
use Rattle.oa_words.specs.Words.{Word, Sizes, SlotRange, slot_range, Phase, Head, Link, Status}
use Rattle.oa_words.specs.SlotKinds.{slots_of, range_of, kind_of, range_at}
use Rattle.oa_words.specs.Within.{AreKinds}
use Rattle.oa_words.specs.Packed.{status_word}
use Rattle.oa_words.specs.Starts.{Beginning, nodes_of, first_ready, slot_or_none, slot_after, start_link, start_kind, start_top, status_at_start, start_word}
use Rattle.oa_words.proofs.KindRanges.{part_within, kind_small, in_range_is_of_kind, of_kind_is_in_range, range_is_within}
use Rattle.chain_laws.specs.Chains.{IsChain, times, Owner, Chained, Outside, caller_of, stamp, top, links, once, once_in, SlotHolds, PoolHolds}
use Rattle.chain_laws.specs.Machine.{slots_from, start_chain, start_owner, pool_start}
use Rattle.chain_laws.specs.Laws.{NodesFit, StartsAs, Holds}
use Rattle.chain_laws.proofs.Lists.{times_here, times_other, chain_same}
use Rattle.chain_laws.proofs.Changes.{tells, once_here, once_elsewhere, fine_row}

-- ---- how often a slot stands among those from one on

from_low : (i j count : ℕ) → i < j → times i (slots_from j count) ≡ 0
from_low i j zero lt = refl
from_low i j (suc count) lt = times_other i j (slots_from (j + 1) count) (λ z. let no : ⊥ = omega (arith, lt, z) in no) ∙ from_low i (j + 1) count (omega (arith, lt))

from_high : (i j count : ℕ) → j + count ≤ i → times i (slots_from j count) ≡ 0
from_high i j zero le = refl
from_high i j (suc count) le = times_other i j (slots_from (j + 1) count) (λ z. let no : ⊥ = omega (arith, le, z) in no) ∙ from_high i (j + 1) count (omega (arith, le))

from_in : (i j count : ℕ) → j ≤ i → i < j + count → times i (slots_from j count) ≡ 1
from_in i j zero le lt = let no : ⊥ = omega (arith, le, lt) in absurd no
from_in i j (suc count) le lt = ⊎_elim
    (λ (z : j ≡ i). subst (λ (k : ℕ). times i (k ∷ slots_from (j + 1) count) ≡ 1) (sym z) (times_here i (slots_from (j + 1) count) ∙ ap suc (from_low i (j + 1) count (omega (arith, z)))))
    (λ (ne : j ≢ i). times_other i j (slots_from (j + 1) count) ne ∙ from_in i (j + 1) count (omega (arith, le, ne)) (omega (arith, lt)))
    (cases_eq j i)

-- ---- the chain

pub none_past_last : (range : SlotRange) (j : ℕ) → range.last < j → slot_or_none range j ≡ 0
none_past_last range j lt = let test : nat_le j range.last ≡ false = grind (arith, nat_tests) in rw test refl

pub slot_inside : (range : SlotRange) (j : ℕ) → j ≤ range.last → slot_or_none range j ≡ j
slot_inside range j le = let test : nat_le j range.last ≡ true = grind (arith, nat_tests) in rw test refl

pub slot_within : (range : SlotRange) (j : ℕ) → slot_or_none range j ≤ range.last
slot_within range j = ⊎_elim
    (λ (out : range.last < j). let is = none_past_last range j out in omega (arith, is))
    (λ (le : j ≤ range.last). let is = slot_inside range j le in omega (arith, is, le))
    (cases_lt range.last j)

pub link_after : (range : SlotRange) (nodes j : ℕ) → first_ready range nodes ≤ j → start_link range nodes j ≡ slot_after range j
link_after range nodes j le = let test : nat_lt j (first_ready range nodes) ≡ false = grind (arith, nat_tests) in rw test refl

chain_from : (range : SlotRange) (nodes j count : ℕ) → 1 ≤ range.first → first_ready range nodes ≤ j → j + count ≡ range.last + 1 → IsChain (start_link range nodes) (slot_or_none range j) (slots_from j count)
chain_from range nodes j zero some le is = none_past_last range j (omega (arith, is))
chain_from range nodes j (suc count) some le is = (
  slot_inside range j (omega (arith, is)),
  (λ z. let no : ⊥ = omega (arith, z, some, le) in no),
  subst (λ (k : ℕ). IsChain (start_link range nodes) k (slots_from (j + 1) count)) (sym (link_after range nodes j le)) (chain_from range nodes (j + 1) count some (omega (arith, le)) (omega (arith, is))),
)

pub slot_small : (tops : ℕ) (range : SlotRange) (j : ℕ) → range.last < tops → slot_or_none range j < tops
slot_small tops range j most = let le = slot_within range j in omega (arith, le, most)

-- ---- owners

owner_in : (range : SlotRange) (nodes j : ℕ) → first_ready range nodes ≤ j → j ≤ range.last → start_owner range nodes j ≡ Chained
owner_in range nodes j le within = let low : nat_le (first_ready range nodes) j ≡ true = grind (arith, nat_tests) in let high : nat_le j range.last ≡ true = grind (arith, nat_tests) in rw (low, high) refl

owner_low : (range : SlotRange) (nodes j : ℕ) → j < first_ready range nodes → start_owner range nodes j ≡ Outside
owner_low range nodes j lt = let low : nat_le (first_ready range nodes) j ≡ false = grind (arith, nat_tests) in rw low refl

owner_high : (range : SlotRange) (nodes j : ℕ) → range.last < j → start_owner range nodes j ≡ Outside
owner_high range nodes j lt = of (nat_le (first_ready range nodes) j) where
  high : nat_le j range.last ≡ false
  high = grind (arith, nat_tests)

  of : (b : Bool) → (if b && nat_le j range.last then Chained else Outside) ≡ Outside
  of true = rw high refl
  of false = refl

-- by where a slot lies: below those without an initial node, among them, or past the range
abbrev LiesBy : SlotRange → ℕ → ℕ → Type 0
LiesBy range nodes j = (j < first_ready range nodes) ⊎ ((first_ready range nodes ≤ j) × (j ≤ range.last)) ⊎ (range.last < j)

each_slot : (range : SlotRange) (nodes j : ℕ) → LiesBy range nodes j
each_slot range nodes j = ⊎_elim
    (λ (low : j < first_ready range nodes). inl low)
    (λ (le : first_ready range nodes ≤ j). ⊎_elim (λ (out : range.last < j). inr (inr out)) (λ (within : j ≤ range.last). inr (inl (le, within))) (cases_lt range.last j))
    (cases_lt j (first_ready range nodes))

start_stands : (range : SlotRange) (nodes j : ℕ) → first_ready range nodes ≤ range.last + 1 → times j (start_chain range nodes) ≡ once (start_owner range nodes j)
start_stands range nodes j le = of (each_slot range nodes j) where
  of : LiesBy range nodes j → times j (start_chain range nodes) ≡ once (start_owner range nodes j)
  of (inl low) = from_low j (first_ready range nodes) (range.last + 1 - first_ready range nodes) low ∙ sym (ap once (owner_low range nodes j low))
  of (inr (inl within)) = from_in j (first_ready range nodes) (range.last + 1 - first_ready range nodes) within.0 (omega (arith, within.1, le)) ∙ sym (ap once (owner_in range nodes j within.0 within.1))
  of (inr (inr out)) = from_high j (first_ready range nodes) (range.last + 1 - first_ready range nodes) (omega (arith, out, le)) ∙ sym (ap once (owner_high range nodes j out))

pub ready_start : (range : SlotRange) (first nodes j : ℕ) → first_ready range nodes ≤ j → status_word first (start_kind range nodes j) ≡ status_word first kinds.Ready
ready_start range first nodes j le = let test : nat_lt j (first_ready range nodes) ≡ false = grind (arith, nat_tests) in rw test refl

used_start : (range : SlotRange) (first nodes j : ℕ) → j < first_ready range nodes → status_word first (start_kind range nodes j) ≡ status_word first kinds.Used
used_start range first nodes j lt = let test : nat_lt j (first_ready range nodes) ≡ true = grind (arith, nat_tests) in rw test refl

-- what stands in the chain of a range lies in it, past the slots of the initial nodes
start_lies : (range : SlotRange) (nodes j : ℕ) → first_ready range nodes ≤ range.last + 1 → times j (start_chain range nodes) ≢ 0 → (first_ready range nodes ≤ j) × (j ≤ range.last)
start_lies range nodes j le some = of (each_slot range nodes j) where
  of : LiesBy range nodes j → (first_ready range nodes ≤ j) × (j ≤ range.last)
  of (inl low) = absurd (some (from_low j (first_ready range nodes) (range.last + 1 - first_ready range nodes) low))
  of (inr (inl within)) = within
  of (inr (inr out)) = absurd (some (from_high j (first_ready range nodes) (range.last + 1 - first_ready range nodes) (omega (arith, out, le))))

-- ---- all kinds

-- whose a slot is at the start
abbrev owner_at : Sizes → Beginning → ℕ → Owner
owner_at n start j = start_owner (range_at n j) (nodes_of start (kind_of n j)) j

start_slot : (n : Sizes) (start : Beginning) (j stamped : ℕ) → AreKinds n → start.first ≤ stamped → SlotHolds (slot_range n) stamped start.first j (status_at_start n start j) (owner_at n start j)
start_slot n start j stamped are up = of (each_slot (range_at n j) (nodes_of start (kind_of n j)) j) where
  by : (o : Owner) → owner_at n start j ≡ o → SlotHolds (slot_range n) stamped start.first j (status_at_start n start j) o → SlotHolds (slot_range n) stamped start.first j (status_at_start n start j) (owner_at n start j)
  by o is slot = subst (λ (x : Owner). SlotHolds (slot_range n) stamped start.first j (status_at_start n start j) x) (sym is) slot

  of : LiesBy (range_at n j) (nodes_of start (kind_of n j)) j → SlotHolds (slot_range n) stamped start.first j (status_at_start n start j) (owner_at n start j)
  of (inl low) = by Outside (owner_low (range_at n j) (nodes_of start (kind_of n j)) j low) (λ within. (start.first, used_start (range_at n j) start.first (nodes_of start (kind_of n j)) j low))
  of (inr (inl within)) = by Chained (owner_in (range_at n j) (nodes_of start (kind_of n j)) j within.0 within.1)
      (range_is_within n (kind_of n j) j are ((let low = within.0 in omega (arith, low)), within.1), (start.first, ready_start (range_at n j) start.first (nodes_of start (kind_of n j)) j within.0, up))
  of (inr (inr out)) = by Outside (owner_high (range_at n j) (nodes_of start (kind_of n j)) j out)
      (λ within. let last = (of_kind_is_in_range n j are (omega (arith, out)) within).1 in let no : ⊥ = omega (arith, out, last) in absurd no)

-- past the kinds there are no slots
none_past : (counts : List ℕ) (k : ℕ) → length counts ≤ k → slice_index counts k ≡ 0
none_past [] k le = refl
none_past (count ∷ counts) zero le = absurd (omega (arith, le))
none_past (count ∷ counts) (suc k) le = none_past counts k (omega (arith, le))

-- a kind has a slot for each of its initial nodes, and all its slots are slots of the row
ready_from : (n : Sizes) (start : Beginning) (k : ℕ) → NodesFit n start → k < length n.kinds → first_ready (range_of n k) (nodes_of start k) ≤ (range_of n k).last + 1
ready_from n start k fit lt = let room = fit k lt in omega (arith, room)

pub last_within : (n : Sizes) (k : ℕ) → AreKinds n → (range_of n k).last ≤ n.slots
last_within n k are = let part = part_within n.kinds k in let whole = are.whole in omega (arith, part, whole)

stands_at_start : (n : Sizes) (start : Beginning) (k j : ℕ) → AreKinds n → NodesFit n start → times j (start_chain (range_of n k) (nodes_of start k)) ≡ once_in n k j (owner_at n start j)
stands_at_start n start k j are fit = ⊎_elim
    (λ (lt : k < length n.kinds). ⊎_elim
    (λ (is : kind_of n j ≡ k). here lt is ∙ sym (once_here n k j (owner_at n start j) is))
    (λ (ne : kind_of n j ≢ k). elsewhere lt ne ∙ sym (once_elsewhere n k j (owner_at n start j) ne))
    (cases_eq (kind_of n j) k))
    (λ (past : length n.kinds ≤ k).
    let none : slots_of n k ≡ 0 = none_past n.kinds k past in
    let count : (range_of n k).last + 1 - first_ready (range_of n k) (nodes_of start k) ≡ 0 = omega (arith, none) in
    let small = kind_small n j are in
    ap (λ (c : ℕ). times j (slots_from (first_ready (range_of n k) (nodes_of start k)) c)) count
    ∙ sym (once_elsewhere n k j (owner_at n start j) (λ z. let no : ⊥ = omega (arith, z, small, past) in no)))
    (cases_lt k (length n.kinds))
  where
    here : k < length n.kinds → kind_of n j ≡ k → times j (start_chain (range_of n k) (nodes_of start k)) ≡ once (owner_at n start j)
    here lt is = start_stands (range_of n k) (nodes_of start k) j (ready_from n start k fit lt) ∙ ap (λ (i : ℕ). once (start_owner (range_of n i) (nodes_of start i) j)) (sym is)

    elsewhere : k < length n.kinds → kind_of n j ≢ k → times j (start_chain (range_of n k) (nodes_of start k)) ≡ 0
    elsewhere lt ne = ⊎_elim
        (λ (none : times j (start_chain (range_of n k) (nodes_of start k)) ≡ 0). none)
        (λ (some : times j (start_chain (range_of n k) (nodes_of start k)) ≢ 0).
        let lies = start_lies (range_of n k) (nodes_of start k) j (ready_from n start k fit lt) some in
        absurd (ne (in_range_is_of_kind n k j lt ((let low = lies.0 in omega (arith, low)), lies.1))))
        (cases_eq (times j (start_chain (range_of n k) (nodes_of start k))) 0)

linked_at_start : (n : Sizes) (start : Beginning) (k : ℕ) → AreKinds n → NodesFit n start → k < length n.kinds
    → IsChain (links (start_word n start)) (start_top (range_of n k) (nodes_of start k)) (start_chain (range_of n k) (nodes_of start k))
linked_at_start n start k are fit lt =
    let range : SlotRange = range_of n k in
    let nodes : ℕ = nodes_of start k in
    let le = ready_from n start k fit lt in
    chain_same (start_link range nodes) (links (start_word n start)) (start_top range nodes) (start_chain range nodes)
    (λ i some.
    let lies = start_lies range nodes i le some in
    let is : kind_of n i ≡ k = in_range_is_of_kind n k i lt ((let low = lies.0 in omega (arith, low)), lies.1) in
    ap (λ (x : ℕ). start_link (range_of n x) (nodes_of start x) i) is)
    (chain_from range nodes (first_ready range nodes) (range.last + 1 - first_ready range nodes) (omega arith) (omega arith) (omega (arith, le)))

-- no slot is a caller's
nobody : (range : SlotRange) (nodes j c : ℕ) → caller_of (start_owner range nodes j) ≡ Some c → ⊥
nobody range nodes j c = of (nat_le (first_ready range nodes) j && nat_le j range.last) where
  of : (b : Bool) → caller_of (if b then Chained else Outside) ≡ Some c → ⊥
  of true is = let z : None ≡ Some c = is in cc
  of false is = let z : None ≡ Some c = is in cc

start_fine : (n : Sizes) (start : Beginning) → AreKinds n → n.slots < n.tops → NodesFit n start → PoolHolds n (start_word n start) (pool_start n start (start_word n start)).hands
start_fine n start are most fit = record {
  stamped = λ k lt. (let is = (parts k).0 in omega (arith, is));
  linked = λ k lt. subst (λ (x : ℕ). IsChain (links (start_word n start)) x (start_chain (range_of n k) (nodes_of start k))) (sym (parts k).1) (linked_at_start n start k are fit lt);
  stands = λ k j. stands_at_start n start k j are fit;
  slot = λ j. start_slot n start j (stamp n.tops (start_word n start) (kind_of n j)) are (let is = (parts (kind_of n j)).0 in omega (arith, is));
} where
  parts : (k : ℕ) → (stamp n.tops (start_word n start) k ≡ start.first) × (top n.tops (start_word n start) k ≡ start_top (range_of n k) (nodes_of start k))
  parts k = tells n.tops (start_word n start) k start.first (start_top (range_of n k) (nodes_of start k)) refl
      (slot_small n.tops (range_of n k) (first_ready (range_of n k) (nodes_of start k)) (let last = last_within n k are in omega (arith, last, most)))

-- the row has the words of its slots
pub row_has : (slots j : ℕ) → j ≤ slots → nat_lt j (slots + 1) ≡ true
row_has slots j le = grind (arith, nat_tests)

-- and the heads of its kinds
pub row_heads : (kinds k : ℕ) → k < kinds → nat_lt k kinds ≡ true
row_heads kinds k lt = grind (arith, nat_tests)

pub start_holds : (n : Sizes) (start : Beginning) (memory : Word → ℕ) → AreKinds n → n.slots < n.tops → NodesFit n start → StartsAs n start memory → Holds n (pool_start n start memory)
start_holds n start memory are most fit starts = record {
  fine = fine_row n (start_word n start) memory (pool_start n start memory).hands are (starts Phase refl) (λ k lt. starts (Head k) (row_heads (length n.kinds) k lt))
      (λ j within. starts (Link j) (row_has n.slots j within)) (λ j within. starts (Status j) (row_has n.slots j within)) (start_fine n start are most fit);
  told = λ c. tt;
  has = λ c j is. absurd (nobody (range_at n j) (nodes_of start (kind_of n j)) j c is);
}
