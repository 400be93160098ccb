-- The kinds' ranges: each slot is in that of its kind, and in no other.
use Rattle.std.proofs.Common.{◌≡◌, ℕ, zero, suc, ◌+◌, ◌-◌, ◌≤◌, ◌<◌, true, false, List, [], ◌∷◌, length, refl, sym, ◌∙◌, ap, subst, arith, ⊎_elim}
use Rattle.std.specs.Prelude.{nat_le, slice_index}
use Rattle.std.proofs.lemmas.Bool.{cases_lt}
use Rattle.std.proofs.lemmas.Bool.Decides.{nat_tests}
use Rattle.oa_words.specs.Words.{Sizes, IsSlot}
use Rattle.oa_words.specs.SlotKinds.{together, sum_before, kind_in, range_of, kind_of, range_at}
use Rattle.oa_words.specs.Within.{AreKinds}
use Rattle.oa_words.specs.Laws.{KindsHaveRanges}

-- ---- numbers of things in a row

in_first : (count next : ℕ) (counts : List ℕ) (j : ℕ) → j ≤ count → kind_in (count ∷ (next ∷ counts)) j ≡ 0
in_first count next counts j le = let test : nat_le j count ≡ true = grind (arith, nat_tests) in rw test refl

past_first : (count next : ℕ) (counts : List ℕ) (j : ℕ) → count < j → kind_in (count ∷ (next ∷ counts)) j ≡ suc (kind_in (next ∷ counts) (j - count))
past_first count next counts j lt = let test : nat_le j count ≡ false = grind (arith, nat_tests) in rw test refl

pub kind_below : (counts : List ℕ) (j : ℕ) → 1 ≤ length counts → kind_in counts j < length counts
kind_below [] j some = absurd (omega (arith, some))
kind_below (count ∷ []) j some = omega arith
kind_below (count ∷ (next ∷ counts)) j some = ⊎_elim
    (λ (past : count < j). let is = past_first count next counts j past in let rest = kind_below (next ∷ counts) (j - count) (omega arith) in omega (arith, is, rest))
    (λ (le : j ≤ count). let is = in_first count next counts j le in omega (arith, is))
    (cases_lt count j)

-- what is in the part of a kind is of the kind
pub kind_at : (counts : List ℕ) (t j : ℕ) → t < length counts → sum_before counts t < j → j ≤ sum_before counts t + slice_index counts t → kind_in counts j ≡ t
kind_at [] t j lt low high = absurd (omega (arith, lt))
kind_at (count ∷ []) zero j lt low high = refl
kind_at (count ∷ []) (suc t) j lt low high = absurd (omega (arith, lt))
kind_at (count ∷ (next ∷ counts)) zero j lt low high = in_first count next counts j (omega (arith, high))
kind_at (count ∷ (next ∷ counts)) (suc t) j lt low high =
    past_first count next counts j (omega (arith, low)) ∙ ap suc (kind_at (next ∷ counts) t (j - count) (omega (arith, lt)) (omega (arith, low)) (omega (arith, low, high)))

-- and back
abbrev IsPart : List ℕ → ℕ → ℕ → Type 0
IsPart counts j t = (sum_before counts t < j) × (j ≤ sum_before counts t + slice_index counts t)

pub part_of : (counts : List ℕ) (j : ℕ) → 1 ≤ j → j ≤ together counts → (sum_before counts (kind_in counts j) < j) × (j ≤ sum_before counts (kind_in counts j) + slice_index counts (kind_in counts j))
part_of [] j some few = absurd (omega (arith, some, few))
part_of (count ∷ []) j some few = (omega (arith, some), omega (arith, few))
part_of (count ∷ (next ∷ counts)) j some few = ⊎_elim
    (λ (past : count < j).
    let rest = part_of (next ∷ counts) (j - count) (omega (arith, past)) (omega (arith, few)) in
    let low = rest.0 in
    let high = rest.1 in
    subst (IsPart (count ∷ (next ∷ counts)) j) (sym (past_first count next counts j past)) (omega (arith, low, past), omega (arith, high, past)))
    (λ (le : j ≤ count). subst (IsPart (count ∷ (next ∷ counts)) j) (sym (in_first count next counts j le)) (omega (arith, some), omega (arith, le)))
    (cases_lt count j)

-- a part ends within the whole
pub part_within : (counts : List ℕ) (t : ℕ) → sum_before counts t + slice_index counts t ≤ together counts
part_within [] t = omega arith
part_within (count ∷ counts) zero = omega arith
part_within (count ∷ counts) (suc t) = let rest = part_within counts t in omega (arith, rest)

-- the parts follow each other
pub parts_follow : (counts : List ℕ) (t : ℕ) → sum_before counts (suc t) ≡ sum_before counts t + slice_index counts t
parts_follow [] t = omega arith
parts_follow (count ∷ []) zero = omega arith
parts_follow (count ∷ (next ∷ counts)) zero = omega arith
parts_follow (count ∷ counts) (suc t) = let rest = parts_follow counts t in omega (arith, rest)

-- ---- slots

pub kind_small : (n : Sizes) (j : ℕ) → AreKinds n → kind_of n j < length n.kinds
kind_small n j are = kind_below n.kinds j are.some

-- a slot in the range of a kind is of the kind
pub in_range_is_of_kind : (n : Sizes) (t j : ℕ) → t < length n.kinds → IsSlot (range_of n t) j → kind_of n j ≡ t
in_range_is_of_kind n t j lt is = let low = is.0 in kind_at n.kinds t j lt (omega (arith, low)) is.1

-- and each slot is in the range of its kind
pub of_kind_is_in_range : (n : Sizes) (j : ℕ) → AreKinds n → 1 ≤ j → j ≤ n.slots → IsSlot (range_at n j) j
of_kind_is_in_range n j are some few =
    let whole = are.whole in
    let part = part_of n.kinds j some (omega (arith, whole, few)) in
    let low = part.0 in (omega (arith, low), part.1)

-- the same for a slot of a known kind
pub stands_in_range : (n : Sizes) (t j : ℕ) → AreKinds n → 1 ≤ j → j ≤ n.slots → kind_of n j ≡ t → IsSlot (range_of n t) j
stands_in_range n t j are some few is = subst (λ (k : ℕ). IsSlot (range_of n k) j) is (of_kind_is_in_range n j are some few)

-- what is in a range is one of all slots
pub range_is_within : (n : Sizes) (t j : ℕ) → AreKinds n → IsSlot (range_of n t) j → (1 ≤ j) × (j ≤ n.slots)
range_is_within n t j are is =
    let whole = are.whole in
    let part = part_within n.kinds t in
    let low = is.0 in
    let high = is.1 in (omega (arith, low), omega (arith, whole, part, high))

pub kinds_have_ranges : (n : Sizes) → AreKinds n → KindsHaveRanges n
kinds_have_ranges n are = record {
  known = λ j. kind_small n j are;
  stands = λ j some few. of_kind_is_in_range n j are some few;
  within = λ t j lt is. let all = range_is_within n t j are is in (all.0, all.1, in_range_is_of_kind n t j lt is);
  counted = λ t. omega arith;
}

-- ---- one kind

pub one_kind : (n : Sizes) (slots j : ℕ) → n.kinds ≡ slots ∷ [] → kind_of n j ≡ 0
one_kind n slots j is = ap (λ (kinds : List ℕ). kind_in kinds j) is

-- sizes of one kind have all slots for it
pub single_kind : (n : Sizes) → AreKinds n → length n.kinds ≡ 1 → n.kinds ≡ n.slots ∷ []
single_kind n are one = single n.kinds one ∙ ap (λ (slots : ℕ). slots ∷ []) are.whole
  where
    single : (kinds : List ℕ) → length kinds ≡ 1 → kinds ≡ together kinds ∷ []
    single [] is = absurd (omega (arith, is))
    single (count ∷ []) is = let same : count ≡ count + 0 = omega arith in ap (λ (c : ℕ). c ∷ []) same
    single (count ∷ (next ∷ kinds)) is = absurd (omega (arith, is))
