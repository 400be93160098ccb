-- Counts of slots, one kind after another.
use Rattle.std.proofs.Common.{◌≡◌, ℕ, zero, suc, ◌+◌, ◌*◌, ◌≤◌, true, List, [], ◌∷◌, length, drop, refl, ◌∙◌, ap, arith}
use Rattle.std.specs.Prelude.{nat_le, slice_index}
use Rattle.std.specs.List.{list_all}
use Rattle.std.proofs.lemmas.Bool.{and_parts}
use Rattle.std.proofs.lemmas.Bool.Decides.{nat_tests}
use Rattle.std.proofs.lemmas.List.{get_or-drop, length-drop}
use Rattle.oa_words.specs.SlotKinds.{together, kind_in}
use Rattle.oa_words.specs.Within.{is_count}

counted : (most count : ℕ) → is_count most count ≡ true → (1 ≤ count) × (count ≤ most)
counted most count is = (grind (arith, nat_tests), grind (arith, nat_tests))

pub few_together : (counts : List ℕ) → list_all (is_count 4096) counts ≡ true → together counts ≤ 4096 * length counts
few_together [] all = omega arith
few_together (count ∷ counts) all =
    let parts = and_parts (is_count 4096 count) (list_all (is_count 4096) counts) all in
    let high = (counted 4096 count parts.0).1 in
    let rest = few_together counts parts.1 in omega (arith, high, rest)

-- four kinds have at most four times as many as one
pub four_together : (counts : List ℕ) → list_all (is_count 4096) counts ≡ true → length counts ≤ 4 → together counts ≤ 16384
four_together counts all few = let most = few_together counts all in omega (arith, most, few)

-- none is above their sum
pub count_within : (t : ℕ) (counts : List ℕ) → slice_index counts t ≤ together counts
count_within t [] = omega arith
count_within zero (count ∷ counts) = omega arith
count_within (suc t) (count ∷ counts) = let rest = count_within t counts in omega (arith, rest)

-- ---- the search for a kind

last_is_first : (counts : List ℕ) (j : ℕ) → length counts ≤ 1 → kind_in counts j ≡ 0
last_is_first [] j few = refl
last_is_first (count ∷ []) j few = refl
last_is_first (count ∷ (next ∷ counts)) j few = absurd (omega (arith, few))

within_first : (counts : List ℕ) (j : ℕ) → j ≤ slice_index counts 0 → kind_in counts j ≡ 0
within_first [] j le = refl
within_first (count ∷ []) j le = refl
within_first (count ∷ (next ∷ counts)) j le = let test : nat_le j count ≡ true = grind (arith, nat_tests) in rw test refl

-- it ends at the last kind, or if what is left of the place is within the kind
pub ends_at_last : (counts : List ℕ) (kind left kind_there : ℕ) → kind + kind_in (drop kind counts) left ≡ kind_there → length counts ≤ kind + 1 → kind ≡ kind_there
ends_at_last counts kind left kind_there told few =
    let count = length-drop kind counts in
    let none = last_is_first (drop kind counts) left (omega (arith, count, few)) in omega (arith, told, none)

pub ends_within : (counts : List ℕ) (kind left kind_there : ℕ) → kind + kind_in (drop kind counts) left ≡ kind_there → left ≤ slice_index counts kind → kind ≡ kind_there
ends_within counts kind left kind_there told le =
    let at : slice_index (drop kind counts) 0 ≡ slice_index counts kind = get_or-drop kind counts 0 0 ∙ ap (slice_index counts) (omega arith) in
    let none = within_first (drop kind counts) left (omega (arith, at, le)) in omega (arith, told, none)
