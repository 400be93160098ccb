-- Places as lvalues: which element of which array the printed tokens of a place are, by the arithmetic of C, that each is inside its array, that no
-- two words have the same, and that no word but a field of null has two. The arrays are those that the header asks memory for.
use Rattle.std.specs.Prelude.{◌≡◌, ◌⊎◌, ℕ, ◌+◌, ◌-◌, ◌*◌, ◌<◌, ◌≤◌, ◌^◌, true, false, List, length, nat_lt, nat_le, if◌then◌else◌, slice_index}
use Rattle.oa_words.specs.Words.{in_row}
use Rattle.oa_words.specs.SlotKinds.{slots_of, first_of}
use Rattle.oa_words.specs.Within.{AreKinds}
use Rattle.c_language.specs.declared.lines.Place.{Place}
use Rattle.c_language.specs.declared.lines.Place.TheVariants as places
use Rattle.c_language.specs.Steps.{Pool, operand, place, is_place, is_null, wrap}

-- the phase's word; of each caller, its warning, and its eight hazards; by slot, statuses and links; by kind, heads, and an array of fields; the roots
pub data Array : Type 0 where
  PhaseWord : Array
  Warnings : Array
  Hazards : (c : ℕ) → Array
  Statuses : Array
  Links : Array
  Heads : Array
  Fields : (k : ℕ) → Array
  Roots : Array

pub record Element : Type 0 where
  pub array : Array
  pub at : ℕ

-- `first_K - 1`
abbrev pub below : Pool → ℕ → ℕ
below pool k = first_of pool.sizes k - 1

-- `root_stride`
abbrev pub root_stride : Pool → ℕ
root_stride pool = if nat_le pool.sizes.cells 16 then 8 else 1

-- how many elements an array has; the hazards of a caller that isn't there have none
abbrev pub array_size : Pool → List ℕ → Array → ℕ
array_size pool strides PhaseWord = 1
array_size pool strides Warnings = pool.sizes.callers
array_size pool strides (Hazards c) = if nat_lt c pool.sizes.callers then 8 else 0
array_size pool strides Statuses = pool.sizes.slots + 1
array_size pool strides Links = pool.sizes.slots + 1
array_size pool strides Heads = length pool.sizes.kinds
array_size pool strides (Fields k) = (slots_of pool.sizes k + 1) * slice_index strides k
array_size pool strides Roots = pool.sizes.cells * root_stride pool

-- `J > below_K ? J - below_K : 0ull`
abbrev pub node : Pool → ℕ → ℕ → ℕ
node pool k j = if nat_lt (below pool k) j then wrap (j + (2 ^ 64 - below pool k)) else 0

-- `NODE * stride_K + Gull`
abbrev pub field_index : Pool → List ℕ → ℕ → ℕ → ℕ → ℕ
field_index pool strides k j g = wrap (wrap (node pool k j * slice_index strides k) + g)

-- `( Xull + A ) * root_stride`
abbrev pub root_index : Pool → ℕ → ℕ
root_index pool x = wrap (wrap x * root_stride pool)

abbrev pub element : Pool → List ℕ → (ℕ → ℕ) → Place → Element
element pool strides locals places.Phase = record { array = PhaseWord; at = 0 }
element pool strides locals (places.Warning c) = record { array = Warnings; at = operand pool locals c }
element pool strides locals (places.Hazard c r) = record { array = Hazards (operand pool locals c); at = operand pool locals r }
element pool strides locals (places.Status j) = record { array = Statuses; at = operand pool locals j }
element pool strides locals (places.Field k j g) = record { array = Fields k; at = field_index pool strides k (operand pool locals j) g }
element pool strides locals (places.Root x a) = record { array = Roots; at = root_index pool (x + operand pool locals a) }
element pool strides locals (places.Head k) = record { array = Heads; at = operand pool locals k }
element pool strides locals (places.Link j) = record { array = Links; at = operand pool locals j }

-- a power of two
abbrev pub IsStride : ℕ → Type 0
IsStride stride = (stride ≡ 1) ⊎ (stride ≡ 2) ⊎ (stride ≡ 4)

-- a pool with these words from one node of each kind to the next: they are enough for its fields. It has fewer than 2^32 slots and roots
pub record HasStrides (pool : Pool) (strides : List ℕ) : Type 0 where
  pub kinds : AreKinds pool.sizes
  pub slots : pool.sizes.slots < 2 ^ 32
  pub cells : pool.sizes.cells < 2 ^ 32
  pub stride : (k : ℕ) → k < length pool.sizes.kinds → IsStride (slice_index strides k)
  pub fields : (k : ℕ) → slice_index pool.fields k ≤ slice_index strides k
  pub none : (k : ℕ) → length pool.sizes.kinds ≤ k → slice_index pool.fields k ≡ 0

-- a place whose word the row has
pub record IsThere (pool : Pool) (locals : ℕ → ℕ) (p : Place) : Type 0 where
  pub is : is_place pool locals p ≡ true
  pub within : in_row pool.sizes (place pool locals p) ≡ true

pub record PlacesAreLvalues (pool : Pool) (strides : List ℕ) : Type 0 where
  pub within : (locals : ℕ → ℕ) (p : Place) → IsThere pool locals p → (element pool strides locals p).at < array_size pool strides (element pool strides locals p).array
  pub apart : (locals others : ℕ → ℕ) (p q : Place) → IsThere pool locals p → IsThere pool others q → element pool strides locals p ≡ element pool strides others q
      → place pool locals p ≡ place pool others q
  pub one : (locals others : ℕ → ℕ) (p q : Place) → IsThere pool locals p → IsThere pool others q → is_null pool locals p ≡ false
      → place pool locals p ≡ place pool others q → element pool strides locals p ≡ element pool strides others q

-- in every pool
abbrev pub LvaluesStandApart : Type 0
LvaluesStandApart = (pool : Pool) (strides : List ℕ) → HasStrides pool strides → PlacesAreLvalues pool strides
