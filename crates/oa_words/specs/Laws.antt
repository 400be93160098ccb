-- What holds of all words.
use Rattle.std.specs.Prelude.{◌≡◌, ◌↔◌, ℕ, suc, ◌+◌, ◌≤◌, ◌<◌, ◌%◌, Bool, true, Some, None, length, slice_index, slice_get}
use Rattle.oa_words.specs.declared.packed.Kind.{Kind}
use Rattle.oa_words.specs.Words.{Word, Sizes, IsSlot, address_of, in_row, word_count}
use Rattle.oa_words.specs.SlotKinds.{together, kind_in, slots_of, range_of, kind_of}
use Rattle.oa_words.specs.Packed.{ref_word, slot_part, is_marked, StatusParts, status_word, status_parts, head_word, head_parts}
use Rattle.oa_words.specs.Starts.{Beginning, start_node, first_home, start_word, start_words}

-- each word of the row stands below the count of words, and different words stand at different addresses
pub record WordsStandApart (n : Sizes) : Type 0 where
  pub within : (w : Word) → in_row n w ≡ true → address_of n w < word_count n
  pub apart : (v w : Word) → in_row n v ≡ true → in_row n w ≡ true → address_of n v ≡ address_of n w → v ≡ w

-- a reference and its parts: each gives back the other, so words with equal parts are equal, and equal words have equal parts
pub record ReferencesSplit : Type 0 where
  pub slot : (slot : ℕ) (marked : Bool) → slot_part (ref_word slot marked) ≡ slot
  pub mark : (slot : ℕ) (marked : Bool) → is_marked (ref_word slot marked) ≡ marked
  pub whole : (word : ℕ) → ref_word (slot_part word) (is_marked word) ≡ word
  pub equal : (slot other : ℕ) (marked also : Bool) → ref_word slot marked ≡ ref_word other also → (slot ≡ other) × (marked ≡ also)

-- a status and its parts: each gives back the other, and a word has none exactly if its kind would be 3
pub record StatusesSplit : Type 0 where
  pub parts : (phase : ℕ) (kind : Kind) → status_parts (status_word phase kind) ≡ Some (record { phase = phase; kind = kind })
  pub whole : (word : ℕ) (parts : StatusParts) → status_parts word ≡ Some parts → status_word parts.phase parts.kind ≡ word
  pub equal : (phase other : ℕ) (kind also : Kind) → status_word phase kind ≡ status_word other also → (phase ≡ other) × (kind ≡ also)
  pub none : (word : ℕ) → (status_parts word ≡ None) ↔ (word % 4 ≡ 3)

-- a head and its parts: each gives back the other, if the top is below the row's number
pub record HeadsSplit (tops : ℕ) : Type 0 where
  pub parts : (phase top : ℕ) → top < tops → head_parts tops (head_word tops phase top) ≡ record { phase = phase; top = top }
  pub small : (word : ℕ) → (head_parts tops word).top < tops
  pub whole : (word : ℕ) → head_word tops (head_parts tops word).phase (head_parts tops word).top ≡ word
  pub equal : (phase other top also : ℕ) → top < tops → also < tops → head_word tops phase top ≡ head_word tops other also → (phase ≡ other) × (top ≡ also)

-- at the start each word says what its name does, and there are no other words
pub record StartsAsNamed (n : Sizes) (start : Beginning) : Type 0 where
  pub words : (w : Word) → in_row n w ≡ true → slice_index (start_words n start) (address_of n w) ≡ start_word n start w
  pub count : length (start_words n start) ≡ word_count n

-- each slot is in the range of its kind and in no other, and the range of a kind has as many slots as the kind
pub record KindsHaveRanges (n : Sizes) : Type 0 where
  pub known : (j : ℕ) → kind_of n j < length n.kinds
  pub stands : (j : ℕ) → 1 ≤ j → j ≤ n.slots → IsSlot (range_of n (kind_of n j)) j
  pub within : (t j : ℕ) → t < length n.kinds → IsSlot (range_of n t) j → (1 ≤ j) × (j ≤ n.slots) × (kind_of n j ≡ t)
  pub counted : (t : ℕ) → (range_of n t).last + 1 ≡ (range_of n t).first + slots_of n t

-- each initial node of a kind stands in a slot of the kind, and no two stand in one
pub record NodesHaveHomes (n : Sizes) (start : Beginning) : Type 0 where
  pub stands : (j : ℕ) → j < together start.counts → kind_in start.counts (suc j) < length n.kinds → start_node n start (first_home n start.counts (suc j)) ≡ slice_get start.nodes j
  pub kind : (j : ℕ) → j < together start.counts → kind_in start.counts (suc j) < length n.kinds → kind_of n (first_home n start.counts (suc j)) ≡ kind_in start.counts (suc j)
  pub within : (j : ℕ) → j < together start.counts → kind_in start.counts (suc j) < length n.kinds → (1 ≤ first_home n start.counts (suc j)) × (first_home n start.counts (suc j) ≤ n.slots)
  pub apart : (i j : ℕ) → i < together start.counts → j < together start.counts → kind_in start.counts (suc i) < length n.kinds → kind_in start.counts (suc j) < length n.kinds
      → first_home n start.counts (suc i) ≡ first_home n start.counts (suc j) → i ≡ j
