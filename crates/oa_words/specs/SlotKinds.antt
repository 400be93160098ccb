-- The kinds of nodes by their slots: each kind has its own range, and the ranges follow each other from slot 1 on, in the kinds'
-- order. So a slot never changes its fields.
use Rattle.std.specs.Prelude.{◌≡◌, ◌⊎◌, ℕ, zero, suc, ◌+◌, ◌-◌, ◌≤◌, List, [], ◌∷◌, nat_le, if◌then◌else◌, slice_index}
use Rattle.oa_words.specs.Words.{Sizes, SlotRange}

-- the sum of the numbers
abbrev pub together : List ℕ → ℕ
together [] = 0
together (count ∷ counts) = count + together counts

-- the sum of the first so many of them
abbrev pub sum_before : List ℕ → ℕ → ℕ
sum_before [] t = 0
sum_before (count ∷ counts) zero = 0
sum_before (count ∷ counts) (suc t) = count + sum_before counts t

-- the kind of the thing at a place, counted from 1, if so many things of each kind stand in a row. What is past them counts to the
-- last kind
abbrev pub kind_in : List ℕ → ℕ → ℕ
kind_in [] j = 0
kind_in (count ∷ []) j = 0
kind_in (count ∷ (next ∷ counts)) j = if nat_le j count then 0 else suc (kind_in (next ∷ counts) (j - count))

-- how many slots a kind has, 0 if there is no such kind
abbrev pub slots_of : Sizes → ℕ → ℕ
slots_of n t = slice_index n.kinds t

abbrev pub first_of : Sizes → ℕ → ℕ
first_of n t = 1 + sum_before n.kinds t

-- the slots of a kind
abbrev pub range_of : Sizes → ℕ → SlotRange
range_of n t = record { first = first_of n t; last = sum_before n.kinds t + slots_of n t }

-- the kind of a slot. Null has none: it counts to the first
abbrev pub kind_of : Sizes → ℕ → ℕ
kind_of n j = kind_in n.kinds j

-- the slots of the kind of a slot
abbrev pub range_at : Sizes → ℕ → SlotRange
range_at n j = range_of n (kind_of n j)

-- null, or a slot of a kind
abbrev pub IsNullOrOf : Sizes → ℕ → ℕ → Type 0
IsNullOrOf n t j = (j ≡ 0) ⊎ ((1 ≤ j) × (j ≤ n.slots) × (kind_of n j ≡ t))
