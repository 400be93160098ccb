-- The slots in which initial nodes stand at the start, and the names that slots have then.
use Rattle.std.proofs.Common.{ℕ, zero, suc, ◌≡◌, ◌≢◌, ◌+◌, ◌-◌, ◌≤◌, ◌<◌, ◌∙◌, Bool, true, false, List, [], ◌∷◌, length, ⊎_elim, arith, ap, refl, if◌then◌else◌}
use Rattle.std.specs.Prelude.{nat_le, nat_lt, slice_index}
use Rattle.std.proofs.lemmas.Bool.{cases_lt}
use Rattle.std.proofs.lemmas.Bool.Decides.{nat_tests}
use Rattle.oa_words.specs.Words.{Sizes}
use Rattle.oa_words.specs.SlotKinds.{together, sum_before, kind_in, first_of, kind_of}
use Rattle.oa_words.specs.Starts.{first_home as node_slot}
use Rattle.oa_words.specs.Within.{AreKinds}
use Rattle.oa_words.proofs.Homes.{home_is_of_kind, home_is_slot}
use Rattle.oa_words.proofs.KindRanges.{kind_at, part_of, part_within, of_kind_is_in_range}
use Rattle.caller_parts.specs.Settings.{Setting, HaveSlots}
use Rattle.oa_simulation.specs.FirstNames.{first_home}
use Rattle.oa_simulation.specs.Present.{node_number, first_present}

pub either : (b : Bool) → ◌≡◌ {A = ℕ} (if b then 0 else 0) 0
either true = refl
either false = refl

-- null is in slot 0
pub first_null : (setting : Setting) → first_home setting 0 ≡ 0
first_null setting = either (nat_le 0 (together setting.nodes))

pub past_index : (xs : List ℕ) (i : ℕ) → length xs ≤ i → slice_index xs i ≡ 0
past_index [] i le = refl
past_index (x ∷ xs) zero le = absurd (omega (arith, le))
past_index (x ∷ xs) (suc i) le = past_index xs i (omega (arith, le))

index_inside : (xs : List ℕ) (i p : ℕ) → p < slice_index xs i → i < length xs
index_inside xs i p lt = ⊎_elim (λ (inside : i < length xs). inside) (λ (past : length xs ≤ i). absurd (let none = past_index xs i past in omega (arith, lt, none))) (cases_lt i (length xs))

-- the range of a slot's kind begins at the slot, or before it
pub first_below : (n : Sizes) (j : ℕ) → AreKinds n → 1 ≤ j → first_of n (kind_of n j) ≤ j
first_below n j are some = ⊎_elim
    (λ (past : n.slots < j). let whole = are.whole in let part = part_within n.kinds (kind_of n j) in omega (arith, past, whole, part))
    (λ (few : j ≤ n.slots). (of_kind_is_in_range n j are some few).0)
    (cases_lt n.slots j)

-- ---- the number of a node by its place among those of its kind

pub number_there : (setting : Setting) (t place : ℕ) → node_number setting t place ≢ 0 → place < slice_index setting.nodes t
number_there setting t place = of (nat_lt place (slice_index setting.nodes t)) refl where
  of : (b : Bool) → nat_lt place (slice_index setting.nodes t) ≡ b → (if b then suc (sum_before setting.nodes t + place) else 0) ≢ 0 → place < slice_index setting.nodes t
  of true is some = grind (arith, nat_tests)
  of false is some = absurd (some refl)

pub number_past : (setting : Setting) (t place : ℕ) → node_number setting t place ≡ 0 → slice_index setting.nodes t ≤ place
number_past setting t place = of (nat_lt place (slice_index setting.nodes t)) refl where
  of : (b : Bool) → nat_lt place (slice_index setting.nodes t) ≡ b → (if b then suc (sum_before setting.nodes t + place) else 0) ≡ 0 → slice_index setting.nodes t ≤ place
  of true is none = absurd (omega (arith, none))
  of false is none = grind (arith, nat_tests)

number_is : (setting : Setting) (t place : ℕ) → place < slice_index setting.nodes t → node_number setting t place ≡ suc (sum_before setting.nodes t + place)
number_is setting t place lt = let test : nat_lt place (slice_index setting.nodes t) ≡ true = grind (arith, nat_tests) in rw test refl

-- ---- a setting whose initial nodes are of its kinds

-- each of them is of a kind that the row has
abbrev pub NodesHaveKinds : Setting → Type 0
NodesHaveKinds setting = (j : ℕ) → j < together setting.nodes → kind_in setting.nodes (suc j) < length setting.sizes.kinds

-- a slot that has a name at the start: that of the node with this number, counted from 0
pub record Named (setting : Setting) (j : ℕ) : Type 0 where
  pub number : ℕ
  pub name : first_present setting j ≡ suc number
  pub among : number < together setting.nodes
  pub stands : node_slot setting.sizes setting.nodes (suc number) ≡ j

module _ (setting : Setting) (are : AreKinds setting.sizes) (slots : HaveSlots setting.sizes setting.nodes) (known : NodesHaveKinds setting) where
  pub home_is : (n : ℕ) → n ≤ together setting.nodes → first_home setting n ≡ node_slot setting.sizes setting.nodes n
  home_is n le = let test : nat_le n (together setting.nodes) ≡ true = grind (arith, nat_tests) in rw test refl

  present_at : (slot t place : ℕ) → kind_of setting.sizes slot ≡ t → slot ≡ first_of setting.sizes t + place → first_present setting slot ≡ node_number setting t place
  present_at zero t place kind is = absurd (omega (arith, is))
  present_at (suc j) t place kind is =
      ap (λ (k : ℕ). node_number setting k (suc j - first_of setting.sizes k)) kind
      ∙ ap (node_number setting t) (omega (arith, is))

  -- a node's slot has its name
  pub node_present : (j : ℕ) → j < together setting.nodes → first_present setting (first_home setting (suc j)) ≡ suc j
  node_present j lt =
      let t : ℕ = kind_in setting.nodes (suc j) in
      let part = part_of setting.nodes (suc j) (omega arith) (omega (arith, lt)) in
      let low = part.0 in
      let high = part.1 in
      ap (first_present setting) (home_is (suc j) (omega (arith, lt)))
      ∙ (present_at (node_slot setting.sizes setting.nodes (suc j)) (kind_in setting.nodes (suc j)) (j - sum_before setting.nodes (kind_in setting.nodes (suc j))) (home_is_of_kind setting.sizes setting.nodes slots j lt (known j lt)) refl
      ∙ (number_is setting (kind_in setting.nodes (suc j)) (j - sum_before setting.nodes (kind_in setting.nodes (suc j))) (omega (arith, low, high)) ∙ omega (arith, low)))

  -- and stands in the row
  pub node_within : (j : ℕ) → j < together setting.nodes → (1 ≤ node_slot setting.sizes setting.nodes (suc j)) × (node_slot setting.sizes setting.nodes (suc j) ≤ setting.sizes.slots)
  node_within j lt = home_is_slot setting.sizes setting.nodes are slots j lt (known j lt)

  -- a slot with a name is that of the node
  pub slot_named : (j : ℕ) → first_present setting j ≢ 0 → Named setting j
  slot_named zero some = absurd (some refl)
  slot_named (suc j) some =
      let there = number_there setting (kind_of setting.sizes (suc j)) (suc j - first_of setting.sizes (kind_of setting.sizes (suc j))) some in
      let within = part_within setting.nodes (kind_of setting.sizes (suc j)) in
      record {
        number = sum_before setting.nodes (kind_of setting.sizes (suc j)) + (suc j - first_of setting.sizes (kind_of setting.sizes (suc j)));
        name = number_is setting (kind_of setting.sizes (suc j)) (suc j - first_of setting.sizes (kind_of setting.sizes (suc j))) there;
        among = omega (arith, there, within);
        stands = slot_of (kind_of setting.sizes (suc j)) (suc j - first_of setting.sizes (kind_of setting.sizes (suc j))) there (let low = first_below setting.sizes (suc j) are (omega arith) in omega (arith, low));
      }
    where
      slot_of : (t place : ℕ) → place < slice_index setting.nodes t → first_of setting.sizes t + place ≡ suc j → node_slot setting.sizes setting.nodes (suc (sum_before setting.nodes t + place)) ≡ suc j
      slot_of t place there is =
          let kind : kind_in setting.nodes (suc (sum_before setting.nodes t + place)) ≡ t = kind_at setting.nodes t (suc (sum_before setting.nodes t + place)) (index_inside setting.nodes t place there) (omega arith) (omega (arith, there)) in
          ap (λ (k : ℕ). first_of setting.sizes k + ((sum_before setting.nodes t + place) - sum_before setting.nodes k)) kind ∙ (omega (arith, is))
