-- What the words say at the start.
use Rattle.std.specs.Prelude.{◌≡◌, ℕ, zero, suc, ◌+◌, ◌-◌, ◌*◌, ◌≤◌, ◌<◌, List, [], ◌∷◌, ◌++◌, length, replicate, nat_le, nat_lt, if◌then◌else◌, slice_index, slice_get, Option, Some, None}
use Rattle.oa_words.specs.declared.packed.Kind.{Kind}
use Rattle.oa_words.specs.declared.packed.Kind.TheVariants as kinds
use Rattle.oa_words.specs.Words.{Word, Phase, Place, Warning, Hazard, Status, FieldOf, Cell, Head, Link, Sizes, SlotRange, slot_rows}
use Rattle.oa_words.specs.SlotKinds.{sum_before, kind_in, slots_of, first_of, range_of, kind_of, range_at}
use Rattle.oa_words.specs.Packed.{status_word, head_word}

-- what a row begins with: the first phase, what the warnings say, the words of each initial node's fields, one kind after another,
-- how many of them each kind has, and the words of the cells
pub record Beginning : Type 0 where
  pub first : ℕ
  pub warnings : ℕ
  pub nodes : List (List ℕ)
  pub counts : List ℕ
  pub cells : List ℕ

-- how many initial nodes a kind has
abbrev pub nodes_of : Beginning → ℕ → ℕ
nodes_of start t = slice_index start.counts t

-- the words of the initial node at a place among those of its kind, if there is one
abbrev pub node_of : Beginning → ℕ → ℕ → Option (List ℕ)
node_of start t place = if nat_lt place (nodes_of start t) then slice_get start.nodes (sum_before start.counts t + place) else None

-- the words of the initial node in a slot, if there is one: those of a kind stand in its first slots
abbrev pub start_node : Sizes → Beginning → ℕ → Option (List ℕ)
start_node n start zero = None
start_node n start (suc j) = node_of start (kind_of n (suc j)) (suc j - first_of n (kind_of n (suc j)))

-- the slot of an initial node by its number, counted from 1, if each kind has so many; null for 0
abbrev pub first_home : Sizes → List ℕ → ℕ → ℕ
first_home n counts zero = 0
first_home n counts (suc j) = first_of n (kind_in counts (suc j)) + (j - sum_before counts (kind_in counts (suc j)))

-- each kind has a slot for each of its initial nodes, none has more words than a slot has fields, and each cell has its word
pub record Suits (n : Sizes) (start : Beginning) : Type 0 where
  pub nodes : (t : ℕ) → t < length n.kinds → nodes_of start t ≤ slots_of n t
  pub fields : (j : ℕ) (node : List ℕ) → start_node n start j ≡ Some node → length node ≤ n.fields
  pub cells : length start.cells ≡ n.cells

-- the least slot of a range without an initial node: so many stand in its first slots. It is past the last if each slot has one
abbrev pub first_ready : SlotRange → ℕ → ℕ
first_ready range nodes = nodes + range.first

-- what a slot is that is in a range, or before it: those of initial nodes and null are used, those after them are ready
abbrev pub start_kind : SlotRange → ℕ → ℕ → Kind
start_kind range nodes j = if nat_lt j (first_ready range nodes) then kinds.Used else kinds.Ready

-- a field of a slot, by its initial node
abbrev pub field_word : Option (List ℕ) → ℕ → ℕ
field_word None g = 0
field_word (Some node) g = slice_index node g

-- a slot of a range, but 0 past its last
abbrev pub slot_or_none : SlotRange → ℕ → ℕ
slot_or_none range j = if nat_le j range.last then j else 0

-- the next greater slot, 0 after the last
abbrev pub slot_after : SlotRange → ℕ → ℕ
slot_after range j = slot_or_none range (j + 1)

-- the slots after those of the initial nodes are chained in ascending order; null and the initial nodes' are in no chain
abbrev pub start_link : SlotRange → ℕ → ℕ → ℕ
start_link range nodes j = if nat_lt j (first_ready range nodes) then 0 else slot_after range j

-- the least slot without an initial node is on top
abbrev pub start_top : SlotRange → ℕ → ℕ
start_top range nodes = slot_or_none range (first_ready range nodes)

-- the same for a slot, and for a kind, of a row: each kind has a chain of its own
abbrev pub status_at_start : Sizes → Beginning → ℕ → ℕ
status_at_start n start j = status_word start.first (start_kind (range_at n j) (nodes_of start (kind_of n j)) j)

abbrev pub link_at_start : Sizes → Beginning → ℕ → ℕ
link_at_start n start j = start_link (range_at n j) (nodes_of start (kind_of n j)) j

abbrev pub start_head : Sizes → Beginning → ℕ → ℕ
start_head n start t = head_word n.tops start.first (start_top (range_of n t) (nodes_of start t))

-- what each word says at the start
abbrev pub start_word : Sizes → Beginning → Word → ℕ
start_word n start Phase = start.first
start_word n start (Place c) = 0
start_word n start (Warning c) = start.warnings
start_word n start (Hazard c r) = 0
start_word n start (Status j) = status_at_start n start j
start_word n start (FieldOf j g) = field_word (start_node n start j) g
start_word n start (Cell x) = slice_index start.cells x
start_word n start (Head t) = start_head n start t
start_word n start (Link j) = link_at_start n start j

-- the statuses of so many slots, from one on
abbrev pub start_statuses : Sizes → Beginning → ℕ → ℕ → List ℕ
start_statuses n start j zero = []
start_statuses n start j (suc count) = status_at_start n start j ∷ start_statuses n start (j + 1) count

-- so many fields of a slot: the words of its initial node, and 0 for each that is left
abbrev pub start_row : ℕ → Option (List ℕ) → List ℕ
start_row fields None = replicate fields 0
start_row fields (Some node) = node ++ replicate (fields - length node) 0

-- the fields of so many slots, from one on
abbrev pub start_rows : Sizes → Beginning → ℕ → ℕ → List ℕ
start_rows n start j zero = []
start_rows n start j (suc count) = start_row n.fields (start_node n start j) ++ start_rows n start (j + 1) count

-- the heads of so many kinds, from one on
abbrev pub start_heads : Sizes → Beginning → ℕ → ℕ → List ℕ
start_heads n start t zero = []
start_heads n start t (suc count) = start_head n start t ∷ start_heads n start (t + 1) count

-- the links of so many slots, from one on
abbrev pub start_links : Sizes → Beginning → ℕ → ℕ → List ℕ
start_links n start j zero = []
start_links n start j (suc count) = link_at_start n start j ∷ start_links n start (j + 1) count

-- all words at the start, in the order of their addresses
abbrev pub start_words : Sizes → Beginning → List ℕ
start_words n start =
    start.first
    ∷ (replicate n.callers 0
    ++ (replicate n.callers start.warnings
    ++ (replicate (8 * n.callers) 0
    ++ (start_statuses n start 0 (slot_rows n)
    ++ (start_rows n start 0 (slot_rows n)
    ++ (start.cells
    ++ (start_heads n start 0 (length n.kinds)
    ++ start_links n start 0 (slot_rows n))))))))
