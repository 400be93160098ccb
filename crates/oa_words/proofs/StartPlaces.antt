-- The list of words at the start says of each word what its name does.
use Rattle.std.proofs.Common.{◌≡◌, ℕ, zero, suc, ◌+◌, ◌-◌, ◌*◌, ◌≤◌, ◌<◌, true, List, ◌++◌, replicate, length, Option, Some, None, refl, sym, ◌∙◌, ap, arith, length-append, ⊎_elim}
use Rattle.std.specs.Prelude.{slice_index}
use Rattle.std.proofs.lemmas.Bool.{cases_lt}
use Rattle.std.proofs.lemmas.List.{length-replicate, get_or-replicate, get_or_past}
use Rattle.oa_words.specs.Words.{Word, Phase, Place, Warning, Hazard, Status, FieldOf, Cell, Head, Link, Sizes, slot_rows, status_base, field_base, cell_base, head_base, link_base, address_of, in_row, word_count}
use Rattle.oa_words.specs.Starts.{Beginning, start_node, Suits, field_word, start_head, start_word, status_at_start, link_at_start, start_statuses, start_row, start_rows, start_heads, start_links, start_words}
use Rattle.oa_words.specs.Laws.{StartsAsNamed}
use Rattle.oa_words.proofs.Places.{place_below, lt_of, lt_two}
use Rattle.oa_words.proofs.Pieces.{skip, inside, tail}

-- ---- statuses

statuses_at : (n : Sizes) (start : Beginning) (i count j : ℕ) → j < count → slice_index (start_statuses n start i count) j ≡ status_at_start n start (i + j)
statuses_at n start i zero j lt = absurd (omega (arith, lt))
statuses_at n start i (suc count) zero lt = let at : i ≡ i + 0 = omega arith in ap (status_at_start n start) at
statuses_at n start i (suc count) (suc j) lt =
    let at : i + 1 + j ≡ i + suc j = omega arith in
    statuses_at n start (i + 1) count j (omega (arith, lt)) ∙ ap (status_at_start n start) at

statuses_length : (n : Sizes) (start : Beginning) (i count : ℕ) → length (start_statuses n start i count) ≡ count
statuses_length n start i zero = refl
statuses_length n start i (suc count) = ap suc (statuses_length n start (i + 1) count)

-- ---- heads

heads_at : (n : Sizes) (start : Beginning) (i count t : ℕ) → t < count → slice_index (start_heads n start i count) t ≡ start_head n start (i + t)
heads_at n start i zero t lt = absurd (omega (arith, lt))
heads_at n start i (suc count) zero lt = let at : i ≡ i + 0 = omega arith in ap (start_head n start) at
heads_at n start i (suc count) (suc t) lt =
    let at : i + 1 + t ≡ i + suc t = omega arith in
    heads_at n start (i + 1) count t (omega (arith, lt)) ∙ ap (start_head n start) at

heads_length : (n : Sizes) (start : Beginning) (i count : ℕ) → length (start_heads n start i count) ≡ count
heads_length n start i zero = refl
heads_length n start i (suc count) = ap suc (heads_length n start (i + 1) count)

-- ---- links

links_at : (n : Sizes) (start : Beginning) (i count j : ℕ) → j < count → slice_index (start_links n start i count) j ≡ link_at_start n start (i + j)
links_at n start i zero j lt = absurd (omega (arith, lt))
links_at n start i (suc count) zero lt = let at : i ≡ i + 0 = omega arith in ap (link_at_start n start) at
links_at n start i (suc count) (suc j) lt =
    let at : i + 1 + j ≡ i + suc j = omega arith in
    links_at n start (i + 1) count j (omega (arith, lt)) ∙ ap (link_at_start n start) at

links_length : (n : Sizes) (start : Beginning) (i count : ℕ) → length (start_links n start i count) ≡ count
links_length n start i zero = refl
links_length n start i (suc count) = ap suc (links_length n start (i + 1) count)

-- ---- fields

-- a node has no more words than its slot has fields
abbrev IsShort : ℕ → Option (List ℕ) → Type 0
IsShort fields o = (node : List ℕ) → o ≡ Some node → length node ≤ fields

row_length : (fields : ℕ) (o : Option (List ℕ)) → IsShort fields o → length (start_row fields o) ≡ fields
row_length fields None short = length-replicate fields 0
row_length fields (Some node) short =
    let le = short node refl in
    let rest = length-replicate {A = ℕ} (fields - length node) 0 in
    length-append node (replicate (fields - length node) 0) ∙ omega (arith, rest, le)

row_at : (fields : ℕ) (o : Option (List ℕ)) (g : ℕ) → g < fields → slice_index (start_row fields o) g ≡ field_word o g
row_at fields None g lt = get_or-replicate fields g 0 0 lt
row_at fields (Some node) g lt = ⊎_elim
    (λ (here : g < length node). inside node (replicate (fields - length node) 0) (length node) g refl here)
    (λ (past : length node ≤ g).
    let at : g ≡ length node + (g - length node) = omega (arith, past) in
    skip node (replicate (fields - length node) 0) (length node) g (g - length node) refl at
    ∙ get_or-replicate (fields - length node) (g - length node) 0 0 (omega (arith, past, lt))
    ∙ sym (get_or_past node g 0 past))
    (cases_lt g (length node))

rows_length : (n : Sizes) (start : Beginning) (i count : ℕ) → ((j : ℕ) → IsShort n.fields (start_node n start j)) → length (start_rows n start i count) ≡ count * n.fields
rows_length n start i zero short = omega arith
rows_length n start i (suc count) short =
    let one = row_length n.fields (start_node n start i) (short i) in
    let rest = rows_length n start (i + 1) count short in
    length-append (start_row n.fields (start_node n start i)) (start_rows n start (i + 1) count) ∙ omega (arith, one, rest)

rows_at : (n : Sizes) (start : Beginning) (i count j g : ℕ) → ((j : ℕ) → IsShort n.fields (start_node n start j)) → j < count → g < n.fields
    → slice_index (start_rows n start i count) (j * n.fields + g) ≡ field_word (start_node n start (i + j)) g
rows_at n start i zero j g short lt field = absurd (omega (arith, lt))
rows_at n start i (suc count) zero g short lt field =
    let at : zero * n.fields + g ≡ g = omega arith in
    let same : i ≡ i + 0 = omega arith in
    ap (slice_index (start_row n.fields (start_node n start i) ++ start_rows n start (i + 1) count)) at
    ∙ inside (start_row n.fields (start_node n start i)) (start_rows n start (i + 1) count) n.fields g (row_length n.fields (start_node n start i) (short i)) field
    ∙ row_at n.fields (start_node n start i) g field ∙ ap (λ (k : ℕ). field_word (start_node n start k) g) same
rows_at n start i (suc count) (suc j) g short lt field =
    let same : i + 1 + j ≡ i + suc j = omega arith in
    skip (start_row n.fields (start_node n start i)) (start_rows n start (i + 1) count) n.fields (suc j * n.fields + g) (j * n.fields + g) (row_length n.fields (start_node n start i) (short i)) (omega arith)
    ∙ rows_at n start (i + 1) count j g short (omega (arith, lt)) field ∙ ap (λ (k : ℕ). field_word (start_node n start k) g) same

module _ {n : Sizes} {start : Beginning} (suits : Suits n start) where
  -- the pieces of the row, and what stands after each
  abbrev kinds : ℕ
  kinds = length n.kinds

  abbrev rows : List ℕ
  rows = start_rows n start 0 (slot_rows n)

  abbrev links : List ℕ
  links = start_links n start 0 (slot_rows n)

  abbrev heads : List ℕ
  heads = start_heads n start 0 kinds

  abbrev after_cells : List ℕ
  after_cells = heads ++ links

  abbrev after_rows : List ℕ
  after_rows = start.cells ++ after_cells

  abbrev after_statuses : List ℕ
  after_statuses = rows ++ after_rows

  abbrev statuses : List ℕ
  statuses = start_statuses n start 0 (slot_rows n)

  abbrev after_hazards : List ℕ
  after_hazards = statuses ++ after_statuses

  abbrev after_warnings : List ℕ
  after_warnings = replicate (8 * n.callers) 0 ++ after_hazards

  abbrev after_places : List ℕ
  after_places = replicate n.callers start.warnings ++ after_warnings

  abbrev after_phase : List ℕ
  after_phase = replicate n.callers 0 ++ after_places

  abbrev words : List ℕ
  words = start_words n start

  rows_count : length rows ≡ slot_rows n * n.fields
  rows_count = rows_length n start 0 (slot_rows n) suits.fields

  -- to each piece
  at_warnings : (k m : ℕ) → k ≡ 1 + n.callers + m → slice_index words k ≡ slice_index after_places m
  at_warnings k m e = tail start.first after_phase k (n.callers + m) (omega (arith, e)) ∙ skip (replicate n.callers 0) after_places n.callers (n.callers + m) m (length-replicate n.callers 0) refl

  at_hazards : (k m : ℕ) → k ≡ 1 + 2 * n.callers + m → slice_index words k ≡ slice_index after_warnings m
  at_hazards k m e = at_warnings k (n.callers + m) (omega (arith, e)) ∙ skip (replicate n.callers start.warnings) after_warnings n.callers (n.callers + m) m (length-replicate n.callers start.warnings) refl

  at_statuses : (k m : ℕ) → k ≡ status_base n + m → slice_index words k ≡ slice_index after_hazards m
  at_statuses k m e = at_hazards k (8 * n.callers + m) (omega (arith, e)) ∙ skip (replicate (8 * n.callers) 0) after_hazards (8 * n.callers) (8 * n.callers + m) m (length-replicate (8 * n.callers) 0) refl

  at_fields : (k m : ℕ) → k ≡ field_base n + m → slice_index words k ≡ slice_index after_statuses m
  at_fields k m e = at_statuses k (slot_rows n + m) (omega (arith, e)) ∙ skip statuses after_statuses (slot_rows n) (slot_rows n + m) m (statuses_length n start 0 (slot_rows n)) refl

  at_cells : (k m : ℕ) → k ≡ cell_base n + m → slice_index words k ≡ slice_index after_rows m
  at_cells k m e = at_fields k (slot_rows n * n.fields + m) (omega (arith, e)) ∙ skip rows after_rows (slot_rows n * n.fields) (slot_rows n * n.fields + m) m rows_count refl

  at_head : (k m : ℕ) → k ≡ head_base n + m → slice_index words k ≡ slice_index after_cells m
  at_head k m e = at_cells k (n.cells + m) (omega (arith, e)) ∙ skip start.cells after_cells n.cells (n.cells + m) m suits.cells refl

  at_links : (k m : ℕ) → k ≡ link_base n + m → slice_index words k ≡ slice_index links m
  at_links k m e = at_head k (kinds + m) (omega (arith, e)) ∙ skip heads links kinds (kinds + m) m (heads_length n start 0 kinds) refl

  field_at : (j g : ℕ) → j < slot_rows n → g < n.fields → slice_index words (address_of n (FieldOf j g)) ≡ field_word (start_node n start j) g
  field_at j g slot field =
      let at : 0 + j ≡ j = omega arith in
      at_fields (address_of n (FieldOf j g)) (j * n.fields + g) (omega arith)
      ∙ inside rows after_rows (slot_rows n * n.fields) (j * n.fields + g) rows_count (place_below j (slot_rows n) g n.fields slot field)
      ∙ rows_at n start 0 (slot_rows n) j g suits.fields slot field ∙ ap (λ (k : ℕ). field_word (start_node n start k) g) at

  words_at : (w : Word) → in_row n w ≡ true → slice_index words (address_of n w) ≡ start_word n start w
  words_at Phase row = refl
  words_at (Place c) row =
      let lt = lt_of c n.callers row in
      tail start.first after_phase (address_of n (Place c)) c (omega arith) ∙ inside (replicate n.callers 0) after_places n.callers c (length-replicate n.callers 0) lt ∙ get_or-replicate n.callers c 0 0 lt
  words_at (Warning c) row =
      let lt = lt_of c n.callers row in
      at_warnings (address_of n (Warning c)) c refl ∙ inside (replicate n.callers start.warnings) after_warnings n.callers c (length-replicate n.callers start.warnings) lt ∙ get_or-replicate n.callers c start.warnings 0 lt
  words_at (Hazard c r) row =
      let lt = lt_two c n.callers r 8 row in
      let a = lt.0 in let b = lt.1 in
      let below : 8 * c + r < 8 * n.callers = omega (arith, a, b) in
      at_hazards (address_of n (Hazard c r)) (8 * c + r) (omega arith) ∙ inside (replicate (8 * n.callers) 0) after_hazards (8 * n.callers) (8 * c + r) (length-replicate (8 * n.callers) 0) below ∙ get_or-replicate (8 * n.callers) (8 * c + r) 0 0 below
  words_at (Status j) row =
      let lt = lt_of j (slot_rows n) row in
      let at : 0 + j ≡ j = omega arith in
      at_statuses (address_of n (Status j)) j refl ∙ inside statuses after_statuses (slot_rows n) j (statuses_length n start 0 (slot_rows n)) lt
      ∙ statuses_at n start 0 (slot_rows n) j lt ∙ ap (status_at_start n start) at
  words_at (FieldOf j g) row = let lt = lt_two j (slot_rows n) g n.fields row in field_at j g lt.0 lt.1
  words_at (Cell x) row = at_cells (address_of n (Cell x)) x refl ∙ inside start.cells after_cells n.cells x suits.cells (lt_of x n.cells row)
  words_at (Head t) row =
      let lt = lt_of t kinds row in
      let at : 0 + t ≡ t = omega arith in
      at_head (address_of n (Head t)) t refl ∙ inside heads links kinds t (heads_length n start 0 kinds) lt ∙ heads_at n start 0 kinds t lt ∙ ap (start_head n start) at
  words_at (Link j) row =
      let lt = lt_of j (slot_rows n) row in
      let at : 0 + j ≡ j = omega arith in
      at_links (address_of n (Link j)) j refl ∙ links_at n start 0 (slot_rows n) j lt ∙ ap (link_at_start n start) at

  words_count : length words ≡ word_count n
  words_count =
      let a = length-replicate {A = ℕ} n.callers 0 in
      let b = length-replicate {A = ℕ} n.callers start.warnings in
      let c = length-replicate {A = ℕ} (8 * n.callers) 0 in
      let d = statuses_length n start 0 (slot_rows n) in
      let e = rows_count in
      let f = suits.cells in
      let g = links_length n start 0 (slot_rows n) in
      let h = heads_length n start 0 kinds in
      let one = length-append (replicate n.callers 0) after_places in
      let two = length-append (replicate n.callers start.warnings) after_warnings in
      let three = length-append (replicate (8 * n.callers) 0) after_hazards in
      let four = length-append statuses after_statuses in
      let five = length-append rows after_rows in
      let six = length-append start.cells after_cells in
      let seven = length-append heads links in
      omega (arith, a, b, c, d, e, f, g, h, one, two, three, four, five, six, seven)

pub starts_as_named : (n : Sizes) (start : Beginning) → Suits n start → StartsAsNamed n start
starts_as_named n start suits = record { words = words_at suits; count = words_count suits }
