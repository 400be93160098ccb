-- The words that all callers share, by name, and the address of each.
use Rattle.std.specs.Prelude.{ℕ, ◌+◌, ◌*◌, ◌≤◌, Bool, true, ◌&&◌, nat_lt, List, length}

-- callers, registers, fields, cells and kinds of nodes are counted from 0; slot 0 is null
pub data Word : Type 0 where
  Phase : Word
  Place : (c : ℕ) → Word
  Warning : (c : ℕ) → Word
  Hazard : (c r : ℕ) → Word
  Status : (j : ℕ) → Word
  FieldOf : (j g : ℕ) → Word
  Cell : (x : ℕ) → Word
  Head : (t : ℕ) → Word
  Link : (j : ℕ) → Word

-- how many callers, slots other than 0, fields of a slot, and cells there are, how many slots each kind of nodes has, which together
-- are all of them, and the number below which the slot stands that a head's word names. A slot has as many fields as the kind with the
-- most
pub record Sizes : Type 0 where
  pub callers : ℕ
  pub slots : ℕ
  pub fields : ℕ
  pub cells : ℕ
  pub kinds : List ℕ
  pub tops : ℕ

-- slots from one number to another, both among them
pub record SlotRange : Type 0 where
  pub first : ℕ
  pub last : ℕ

-- the slots that hold nodes: those that are claimed, retired and swept
abbrev pub slot_range : Sizes → SlotRange
slot_range n = record { first = 1; last = n.slots }

-- it is one of them
abbrev pub IsSlot : SlotRange → ℕ → Type 0
IsSlot range j = (range.first ≤ j) × (j ≤ range.last)

-- how many slots have a status, fields and a link: null, and those that hold nodes
abbrev pub slot_rows : Sizes → ℕ
slot_rows n = n.slots + 1

abbrev pub status_base : Sizes → ℕ
status_base n = 1 + 10 * n.callers

abbrev pub field_base : Sizes → ℕ
field_base n = status_base n + slot_rows n

abbrev pub cell_base : Sizes → ℕ
cell_base n = field_base n + slot_rows n * n.fields

abbrev pub head_base : Sizes → ℕ
head_base n = cell_base n + n.cells

abbrev pub link_base : Sizes → ℕ
link_base n = head_base n + length n.kinds

abbrev pub address_of : Sizes → Word → ℕ
address_of n Phase = 0
address_of n (Place c) = 1 + c
address_of n (Warning c) = 1 + n.callers + c
address_of n (Hazard c r) = 1 + 2 * n.callers + 8 * c + r
address_of n (Status j) = status_base n + j
address_of n (FieldOf j g) = field_base n + j * n.fields + g
address_of n (Cell x) = cell_base n + x
address_of n (Head t) = head_base n + t
address_of n (Link j) = link_base n + j

abbrev pub word_count : Sizes → ℕ
word_count n = link_base n + slot_rows n

-- the row has the word
abbrev pub in_row : Sizes → Word → Bool
in_row n Phase = true
in_row n (Place c) = nat_lt c n.callers
in_row n (Warning c) = nat_lt c n.callers
in_row n (Hazard c r) = nat_lt c n.callers && nat_lt r 8
in_row n (Status j) = nat_lt j (slot_rows n)
in_row n (FieldOf j g) = nat_lt j (slot_rows n) && nat_lt g n.fields
in_row n (Cell x) = nat_lt x n.cells
in_row n (Head t) = nat_lt t (length n.kinds)
in_row n (Link j) = nat_lt j (slot_rows n)
