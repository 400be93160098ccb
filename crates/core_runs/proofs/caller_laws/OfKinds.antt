-- Slots by their kinds.
use Rattle.std.proofs.Common.{◌≡◌, ◌≢◌, ℕ, ◌≤◌, ◌<◌, length, inr, ⊎_elim, subst, arith}
use Rattle.oa_words.specs.Words.{Sizes}
use Rattle.oa_words.specs.SlotKinds.{kind_of, IsNullOrOf}
use Rattle.oa_words.specs.Within.{AreKinds}
use Rattle.oa_words.proofs.KindRanges.{kind_small}

-- null, or a slot of a kind, is in the row
pub of_row : (n : Sizes) (k j : ℕ) → IsNullOrOf n k j → j ≤ n.slots
of_row n k j is = ⊎_elim (λ (none : j ≡ 0). omega (arith, none)) (λ (one : (1 ≤ j) × (j ≤ n.slots) × (kind_of n j ≡ k)). one.1) is

-- a slot of the row is one of its kind
pub of_own_kind : (n : Sizes) (k j : ℕ) → 1 ≤ j → j ≤ n.slots → kind_of n j ≡ k → IsNullOrOf n k j
of_own_kind n k j low high is = inr (low, high, is)

-- what isn't null is one
pub slot_of_kind : (n : Sizes) (k j : ℕ) → j ≢ 0 → IsNullOrOf n k j → (1 ≤ j) × (j ≤ n.slots) × (kind_of n j ≡ k)
slot_of_kind n k j some is = ⊎_elim (λ (none : j ≡ 0). absurd (some none)) (λ (one : (1 ≤ j) × (j ≤ n.slots) × (kind_of n j ≡ k)). one) is

pub of_same_kind : (n : Sizes) (k l j : ℕ) → k ≡ l → IsNullOrOf n k j → IsNullOrOf n l j
of_same_kind n k l j same is = subst (λ (m : ℕ). IsNullOrOf n m j) same is

-- the kind of a slot is one of the row's
pub kind_known : (n : Sizes) (k j : ℕ) → AreKinds n → k ≡ kind_of n j → k < length n.kinds
kind_known n k j are is = let small = kind_small n j are in omega (arith, small, is)
