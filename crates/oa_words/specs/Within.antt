-- The sizes that a row may have.
use Rattle.std.specs.Prelude.{◌≡◌, ℕ, ◌≤◌, ◌<◌, Bool, ◌&&◌, nat_le, List, [], ◌∷◌, length, if◌then◌else◌, Result, Ok, Err}
use Rattle.std.specs.List.{list_all}
use Rattle.oa_words.specs.Words.{Sizes}
use Rattle.oa_words.specs.SlotKinds.{together, slots_of}
use Rattle.oa_words.specs.declared.limits.TheConstants.{MOST_CALLERS, MOST_KINDS, MOST_SLOTS, MOST_FIELDS, MOST_CELLS, TOPS}
use Rattle.oa_words.specs.declared.shape.ShapeFault.{ShapeFault}
use Rattle.oa_words.specs.declared.shape.ShapeFault.TheVariants as faults

-- there is a kind, and not too many, each has a slot, and their slots are all that there are
pub record AreKinds (n : Sizes) : Type 0 where
  pub some : 1 ≤ length n.kinds
  pub few : length n.kinds ≤ MOST_KINDS
  pub each : (t : ℕ) → t < length n.kinds → 1 ≤ slots_of n t
  pub whole : together n.kinds ≡ n.slots

-- what laws ask of a row's sizes: there is at least one of each, and a head's word has room for each slot, and for the four numbers
-- that a status has beside its phase
pub record AreSizes (n : Sizes) : Type 0 where
  pub callers : 1 ≤ n.callers
  pub slots : 1 ≤ n.slots
  pub fields : 1 ≤ n.fields
  pub cells : 1 ≤ n.cells
  pub kinds : AreKinds n
  pub tops : n.slots < n.tops
  pub room : 4 ≤ n.tops

-- the limits of the rows that shapes have, which no law asks for
pub record AreSmall (n : Sizes) : Type 0 where
  pub callers : n.callers ≤ MOST_CALLERS
  pub slots : n.slots ≤ MOST_SLOTS
  pub fields : n.fields ≤ MOST_FIELDS
  pub cells : n.cells ≤ MOST_CELLS
  pub tops : n.tops ≡ TOPS

-- there is at least one of them, and at most so many
abbrev pub is_count : ℕ → ℕ → Bool
is_count most count = nat_le 1 count && nat_le count most

-- the sizes of a shape whose kinds have so many slots
abbrev pub sizes_of_kinds : ℕ → List ℕ → ℕ → ℕ → Sizes
sizes_of_kinds callers kinds fields cells = record { callers = callers; slots = together kinds; fields = fields; cells = cells; kinds = kinds; tops = TOPS }

-- those of one kind
abbrev pub sizes_of_one : ℕ → ℕ → ℕ → ℕ → Sizes
sizes_of_one callers slots fields cells = record { callers = callers; slots = slots; fields = fields; cells = cells; kinds = slots ∷ []; tops = TOPS }

-- each kind has a slot and at most so many, and so have all together
abbrev pub are_slots : Sizes → Bool
are_slots n = list_all (is_count MOST_SLOTS) n.kinds && nat_le n.slots MOST_SLOTS

-- sizes that are asked for with so many kinds, if they are within the limits, or the first number that is outside
abbrev pub sizes_or_fault : ℕ → Sizes → Result Sizes ShapeFault
sizes_or_fault kinds n =
    if is_count MOST_CALLERS n.callers then (if is_count MOST_KINDS kinds then (if are_slots n then (if is_count MOST_FIELDS n.fields then (if is_count MOST_CELLS n.cells then Ok n
    else Err faults.Cells) else Err faults.Fields) else Err faults.Slots) else Err faults.Kinds) else Err faults.Callers
