-- A row of 1 caller, 3 slots, 2 fields and 1 cell, worked out by hand, rows of two and of four kinds, and shapes at the limits.
use Rattle.std.proofs.Common.{◌≡◌, ℕ, ◌+◌, ◌-◌, true, Result, Ok, Err, None, List, [], ◌∷◌, drop, take, length, refl}
use Rattle.std.specs.Prelude.{◌^◌}
use Rattle.oa_words.specs.declared.packed.Kind.TheVariants.{Retired}
use Rattle.oa_words.specs.declared.shape.ShapeFault.{ShapeFault}
use Rattle.oa_words.specs.declared.shape.ShapeFault.TheVariants as faults
use Rattle.oa_words.specs.Words.{Sizes, Phase, Place, Warning, Hazard, Status, FieldOf, Cell, Head, Link, address_of, word_count}
use Rattle.oa_words.specs.Within.{sizes_or_fault, sizes_of_one, sizes_of_kinds}
use Rattle.oa_words.specs.Packed.{ref_word, status_word, status_parts, head_word, head_parts}
use Rattle.oa_words.specs.SlotKinds.{kind_of, range_of}
use Rattle.oa_words.specs.Starts.{Beginning, first_home, start_words}

abbrev small : Sizes
small = record { callers = 1; slots = 3; fields = 2; cells = 1; kinds = 3 ∷ []; tops = 8192 }

pub phase_stands : address_of small Phase ≡ 0
phase_stands = refl

pub place_stands : address_of small (Place 0) ≡ 1
place_stands = refl

pub warning_stands : address_of small (Warning 0) ≡ 2
warning_stands = refl

pub first_hazard_stands : address_of small (Hazard 0 0) ≡ 3
first_hazard_stands = refl

pub last_hazard_stands : address_of small (Hazard 0 7) ≡ 10
last_hazard_stands = refl

pub status_stands : address_of small (Status 1) ≡ 12
status_stands = refl

pub field_stands : address_of small (FieldOf 2 1) ≡ 20
field_stands = refl

pub cell_stands : address_of small (Cell 0) ≡ 23
cell_stands = refl

pub head_stands : address_of small (Head 0) ≡ 24
head_stands = refl

pub null_link_stands : address_of small (Link 0) ≡ 25
null_link_stands = refl

pub last_link_stands : address_of small (Link 3) ≡ 28
last_link_stands = refl

pub words_counted : word_count small ≡ 29
words_counted = refl

pub marked_reference : ref_word 3 true ≡ 7
marked_reference = refl

pub retired_status : status_word 7 Retired ≡ 30
retired_status = refl

pub kind_of_three : status_parts 7 ≡ None
kind_of_three = refl

pub head_of_two : head_word 8192 3 2 ≡ 24578
head_of_two = refl

pub head_split : head_parts 8192 24578 ≡ record { phase = 3; top = 2 }
head_split = refl

-- the greatest head fits a word, with the greatest phase and slot
pub greatest_head : head_parts 8192 (head_word 8192 (2 ^ 50) 4096) ≡ record { phase = 2 ^ 50; top = 4096 }
greatest_head = refl

-- heads of other rows: the least, whose tops are 0 to 3, and one of 16,777,216 tops
pub head_of_least : head_word 4 3 2 ≡ 14
head_of_least = refl

pub least_split : head_parts 4 14 ≡ record { phase = 3; top = 2 }
least_split = refl

pub greatest_of_least : head_word 4 3 3 ≡ 15
greatest_of_least = refl

pub next_of_least : head_parts 4 16 ≡ record { phase = 4; top = 0 }
next_of_least = refl

pub head_of_wide : head_word (2 ^ 24) 3 2 ≡ 50331650
head_of_wide = refl

pub wide_split : head_parts (2 ^ 24) 50331650 ≡ record { phase = 3; top = 2 }
wide_split = refl

-- the greatest slot beside the greatest phase: all bits of a word
pub greatest_of_wide : head_word (2 ^ 24) (2 ^ 40 - 1) (2 ^ 24 - 1) ≡ 2 ^ 64 - 1
greatest_of_wide = refl

pub greatest_wide_split : head_parts (2 ^ 24) (2 ^ 64 - 1) ≡ record { phase = 2 ^ 40 - 1; top = 2 ^ 24 - 1 }
greatest_wide_split = refl

-- ---- the start: the words of the head and of the links 0 to 3, in phase 3

abbrev begun : List (List ℕ) → Beginning
begun nodes = record { first = 3; warnings = 3; nodes = nodes; counts = length nodes ∷ []; cells = 7 ∷ [] }

abbrev chain_begun : List (List ℕ) → List ℕ
chain_begun nodes = drop 24 (start_words small (begun nodes))

abbrev node : List ℕ
node = 5 ∷ 0 ∷ []

-- all slots are chained, the least on top
pub starts_without_node : chain_begun [] ≡ 24577 ∷ 0 ∷ 2 ∷ 3 ∷ 0 ∷ []
starts_without_node = refl

-- slot 1 holds the node
pub starts_with_one : chain_begun (node ∷ []) ≡ 24578 ∷ 0 ∷ 0 ∷ 3 ∷ 0 ∷ []
starts_with_one = refl

-- slot 3 alone is left
pub starts_with_two : chain_begun (node ∷ node ∷ []) ≡ 24579 ∷ 0 ∷ 0 ∷ 0 ∷ 0 ∷ []
starts_with_two = refl

-- no slot is left
pub starts_with_three : chain_begun (node ∷ node ∷ node ∷ []) ≡ 24576 ∷ 0 ∷ 0 ∷ 0 ∷ 0 ∷ []
starts_with_three = refl

-- the whole row, with one node
pub start_worked : start_words small (begun (node ∷ [])) ≡
    3 ∷ 0 ∷ 3 ∷ 0 ∷ 0 ∷ 0 ∷ 0 ∷ 0 ∷ 0 ∷ 0 ∷ 0 ∷ 13 ∷ 13 ∷ 12 ∷ 12
    ∷ 0 ∷ 0 ∷ 5 ∷ 0 ∷ 0 ∷ 0 ∷ 0 ∷ 0 ∷ 7
    ∷ 24578 ∷ 0 ∷ 0 ∷ 3 ∷ 0 ∷ []
start_worked = refl

-- the head and the links of the same row, but for tops below 4, and below 16,777,216
abbrev chain_of : ℕ → List ℕ
chain_of tops = drop 24 (start_words (record small { tops = tops }) (begun (node ∷ [])))

pub starts_with_four_tops : chain_of 4 ≡ 14 ∷ 0 ∷ 0 ∷ 3 ∷ 0 ∷ []
starts_with_four_tops = refl

pub starts_wide : chain_of (2 ^ 24) ≡ 50331650 ∷ 0 ∷ 0 ∷ 3 ∷ 0 ∷ []
starts_wide = refl

abbrev with_slots : ℕ → Sizes
with_slots slots = sizes_of_one 1 slots 1 1

pub no_slots : sizes_or_fault 1 (with_slots 0) ≡ Err faults.Slots
no_slots = refl

pub one_slot : sizes_or_fault 1 (with_slots 1) ≡ Ok (with_slots 1)
one_slot = refl

pub most_slots : sizes_or_fault 1 (with_slots 4096) ≡ Ok (with_slots 4096)
most_slots = refl

pub too_many_slots : sizes_or_fault 1 (with_slots 4097) ≡ Err faults.Slots
too_many_slots = refl

-- a number whose lowest 32 bits would be lawful
pub slots_past_a_word : sizes_or_fault 1 (with_slots (2 ^ 32 + 1)) ≡ Err faults.Slots
slots_past_a_word = refl

pub callers_before_all : sizes_or_fault 1 (sizes_of_one 9 0 0 0) ≡ Err faults.Callers
callers_before_all = refl

-- a node with fewer words than a slot has fields
pub short_node : drop 15 (start_words small (begun ((5 ∷ []) ∷ []))) ≡ 0 ∷ 0 ∷ 5 ∷ 0 ∷ 0 ∷ 0 ∷ 0 ∷ 0 ∷ 7 ∷ 24578 ∷ 0 ∷ 0 ∷ 3 ∷ 0 ∷ []
short_node = refl

-- ---- two kinds, of which one has slots 1 and 2, and the other slot 3; each has an initial node, and a cell names it

abbrev two_kinds : Sizes
two_kinds = record { callers = 1; slots = 3; fields = 2; cells = 2; kinds = 2 ∷ 1 ∷ []; tops = 8192 }

pub first_head_stands : address_of two_kinds (Head 0) ≡ 25
first_head_stands = refl

pub second_head_stands : address_of two_kinds (Head 1) ≡ 26
second_head_stands = refl

pub link_after_heads : address_of two_kinds (Link 3) ≡ 30
link_after_heads = refl

pub words_of_two_kinds : word_count two_kinds ≡ 31
words_of_two_kinds = refl

pub last_slot_of_first : kind_of two_kinds 2 ≡ 0
last_slot_of_first = refl

pub only_slot_of_second : kind_of two_kinds 3 ≡ 1
only_slot_of_second = refl

pub second_range : range_of two_kinds 1 ≡ record { first = 3; last = 3 }
second_range = refl

-- the second node doesn't stand in slot 2
pub home_of_second : first_home two_kinds (1 ∷ 1 ∷ 0 ∷ 0 ∷ []) 2 ≡ 3
home_of_second = refl

-- slot 2 alone is ready. The second kind has one field, and its slot a word more
pub two_kinds_worked : start_words two_kinds (record { first = 3; warnings = 3; nodes = (5 ∷ 0 ∷ []) ∷ (7 ∷ []) ∷ []; counts = 1 ∷ 1 ∷ 0 ∷ 0 ∷ []; cells = 2 ∷ 6 ∷ [] }) ≡
    3 ∷ 0 ∷ 3 ∷ 0 ∷ 0 ∷ 0 ∷ 0 ∷ 0 ∷ 0 ∷ 0 ∷ 0 ∷ 13 ∷ 13 ∷ 12 ∷ 13
    ∷ 0 ∷ 0 ∷ 5 ∷ 0 ∷ 0 ∷ 0 ∷ 7 ∷ 0 ∷ 2 ∷ 6
    ∷ 24578 ∷ 24576 ∷ 0 ∷ 0 ∷ 0 ∷ 0 ∷ []
two_kinds_worked = refl

-- ---- four kinds with 1, 3, 2 and 4 slots, of which 0, 1, 2 and 1 have initial nodes; no caller has announced a phase

abbrev four_kinds : Sizes
four_kinds = record { callers = 1; slots = 10; fields = 1; cells = 1; kinds = 1 ∷ 3 ∷ 2 ∷ 4 ∷ []; tops = 8192 }

abbrev four_counts : List ℕ
four_counts = 0 ∷ 1 ∷ 2 ∷ 1 ∷ []

pub last_head_stands : address_of four_kinds (Head 3) ≡ 37
last_head_stands = refl

pub links_after_four : address_of four_kinds (Link 0) ≡ 38
links_after_four = refl

pub words_of_four_kinds : word_count four_kinds ≡ 49
words_of_four_kinds = refl

pub third_range : range_of four_kinds 2 ≡ record { first = 5; last = 6 }
third_range = refl

pub first_slot_of_last : kind_of four_kinds 7 ≡ 3
first_slot_of_last = refl

pub homes_of_four : first_home four_kinds four_counts 1 ∷ first_home four_kinds four_counts 2 ∷ first_home four_kinds four_counts 3 ∷ first_home four_kinds four_counts 4 ∷ [] ≡ 2 ∷ 5 ∷ 6 ∷ 7 ∷ []
homes_of_four = refl

pub four_kinds_worked : start_words four_kinds (record { first = 3; warnings = 0; nodes = (11 ∷ []) ∷ (22 ∷ []) ∷ (33 ∷ []) ∷ (44 ∷ []) ∷ []; counts = four_counts; cells = 7 ∷ [] }) ≡
    3 ∷ 0 ∷ 0 ∷ 0 ∷ 0 ∷ 0 ∷ 0 ∷ 0 ∷ 0 ∷ 0 ∷ 0
    ∷ 13 ∷ 12 ∷ 13 ∷ 12 ∷ 12 ∷ 13 ∷ 13 ∷ 13 ∷ 12 ∷ 12 ∷ 12
    ∷ 0 ∷ 0 ∷ 11 ∷ 0 ∷ 0 ∷ 22 ∷ 33 ∷ 44 ∷ 0 ∷ 0 ∷ 0 ∷ 7
    ∷ 24577 ∷ 24579 ∷ 24576 ∷ 24584
    ∷ 0 ∷ 0 ∷ 0 ∷ 4 ∷ 0 ∷ 0 ∷ 0 ∷ 0 ∷ 9 ∷ 10 ∷ 0 ∷ []
four_kinds_worked = refl

-- ---- limits of kinds

abbrev with_kinds : ℕ → List ℕ → Result Sizes ShapeFault
with_kinds kinds slots = sizes_or_fault kinds (sizes_of_kinds 1 (take kinds slots) 1 1)

pub no_kinds : with_kinds 0 (1 ∷ 1 ∷ 1 ∷ 1 ∷ []) ≡ Err faults.Kinds
no_kinds = refl

pub five_kinds : with_kinds 5 (1 ∷ 1 ∷ 1 ∷ 1 ∷ []) ≡ Err faults.Kinds
five_kinds = refl

pub kinds_before_slots : with_kinds (2 ^ 32 + 1) (0 ∷ 0 ∷ 0 ∷ 0 ∷ []) ≡ Err faults.Kinds
kinds_before_slots = refl

pub callers_before_kinds : sizes_or_fault 0 (sizes_of_kinds 0 [] 1 1) ≡ Err faults.Callers
callers_before_kinds = refl

pub kind_without_slot : with_kinds 2 (1 ∷ 0 ∷ 1 ∷ 1 ∷ []) ≡ Err faults.Slots
kind_without_slot = refl

pub most_slots_of_two : with_kinds 2 (4095 ∷ 1 ∷ 0 ∷ 0 ∷ []) ≡ Ok (record { callers = 1; slots = 4096; fields = 1; cells = 1; kinds = 4095 ∷ 1 ∷ []; tops = 8192 })
most_slots_of_two = refl

pub too_many_together : with_kinds 2 (4096 ∷ 1 ∷ 0 ∷ 0 ∷ []) ≡ Err faults.Slots
too_many_together = refl

-- their sum would be one in words of 64 bits
pub sum_past_a_word : with_kinds 2 ((2 ^ 64 - 1) ∷ 2 ∷ 0 ∷ 0 ∷ []) ≡ Err faults.Slots
sum_past_a_word = refl

-- what stands past the kinds isn't looked at
pub slots_past_the_kinds : with_kinds 1 (3 ∷ 0 ∷ 5000 ∷ 0 ∷ []) ≡ Ok (record { callers = 1; slots = 3; fields = 1; cells = 1; kinds = 3 ∷ []; tops = 8192 })
slots_past_the_kinds = refl
