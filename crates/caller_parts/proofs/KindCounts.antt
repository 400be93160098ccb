-- Counts of the fields of kinds, and of their slots.
use Rattle.std.proofs.Common.{◌≡◌, ℕ, zero, suc, ◌<◌, ◌≤◌, Bool, true, false, List, length, refl, arith}
use Rattle.std.specs.Prelude.{slice_index, nat_lt, nat_le}
use Rattle.std.proofs.lemmas.Bool.{ltb-true, ltb-false, leb-true, and_parts}
use Rattle.norm_lang.specs.declared.text.FieldDecl.{FieldDecl}
use Rattle.oa_words.specs.Words.{Sizes}
use Rattle.oa_words.specs.SlotKinds.{slots_of}
use Rattle.caller_parts.specs.KindCounts.{field_count, greatest_of}
use Rattle.caller_parts.specs.Settings.{HaveSlots, have_slots}

-- the greatest count is at least each of them
pub greatest_holds : (fields : List FieldDecl) (kinds t : ℕ) → t < kinds → field_count fields t ≤ greatest_of fields kinds
greatest_holds fields zero t lt = absurd (omega (arith, lt))
greatest_holds fields (suc k) t lt = by (nat_lt t k) refl (λ before. greatest_holds fields k t before) where
  by : (b : Bool) → nat_lt t k ≡ b → (t < k → field_count fields t ≤ greatest_of fields k) → field_count fields t ≤ greatest_of fields (suc k)
  by true before so_far = let rest = so_far (ltb-true t k before) in omega (arith, rest)
  by false not_before so_far = let last : t ≡ k = (let later = ltb-false t k not_before in omega (arith, later, lt)) in rw last (omega arith)

-- if the test finds slots for the initial nodes of each of the first so many kinds, each has them
slots_for : (sizes : Sizes) (nodes : List ℕ) (kinds : ℕ) → have_slots sizes nodes kinds ≡ true → (t : ℕ) → t < kinds → slice_index nodes t ≤ slots_of sizes t
slots_for sizes nodes zero have t lt = absurd (omega (arith, lt))
slots_for sizes nodes (suc k) have t lt = by (nat_lt t k) refl (λ before. slots_for sizes nodes k (parts.0) t before) where
  parts : (have_slots sizes nodes k ≡ true) × (nat_le (slice_index nodes k) (slots_of sizes k) ≡ true)
  parts = and_parts (have_slots sizes nodes k) (nat_le (slice_index nodes k) (slots_of sizes k)) have

  by : (b : Bool) → nat_lt t k ≡ b → (t < k → slice_index nodes t ≤ slots_of sizes t) → slice_index nodes t ≤ slots_of sizes t
  by true before so_far = so_far (ltb-true t k before)
  by false not_before so_far =
      let last : t ≡ k = (let later = ltb-false t k not_before in omega (arith, later, lt)) in
      let fits : slice_index nodes k ≤ slots_of sizes k = leb-true (slice_index nodes k) (slots_of sizes k) parts.1 in rw last fits

pub kinds_have_slots : (sizes : Sizes) (nodes : List ℕ) → have_slots sizes nodes (length sizes.kinds) ≡ true → HaveSlots sizes nodes
kinds_have_slots sizes nodes have t lt = slots_for sizes nodes (length sizes.kinds) have t lt
