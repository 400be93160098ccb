-- The element of a place is inside its array, and tells the place's word.
use Rattle.std.proofs.Common.{◌≡◌, ℕ, ◌+◌, ◌-◌, ◌*◌, ◌/◌, ◌%◌, ◌<◌, ◌≤◌, ◌^◌, Bool, true, false, ◌&&◌, ◌||◌, List, length, if◌then◌else◌, ◌==◌, inl, inr, ⊎_elim, refl, sym, ◌∙◌, ap, subst, arith}
use Rattle.std.specs.Prelude.{nat_lt, nat_le, slice_index}
use Rattle.std.proofs.lemmas.Bool.{and_parts, cases_Bool, cases_lt, eqb-true}
use Rattle.std.proofs.lemmas.Bool.Decides.{nat_tests}
use Rattle.oa_words.specs.Words.{Word, Phase, Warning, Hazard, Status, FieldOf, Cell, Head, Link}
use Rattle.oa_words.specs.SlotKinds.{sum_before, slots_of, kind_of}
use Rattle.oa_words.proofs.KindRanges.{stands_in_range, part_within}
use Rattle.c_language.specs.declared.lines.Place.{Place}
use Rattle.c_language.specs.declared.lines.Place.TheVariants as places
use Rattle.c_language.specs.Steps.{Pool, operand, has_field, is_null, place, wrap}
use Rattle.c_printer.specs.Lvalues.{Array, PhaseWord, Warnings, Hazards, Statuses, Links, Heads, Fields, Roots, Element, below, root_stride, array_size, node, field_index, root_index, element, IsStride, HasStrides, IsThere, LvaluesStandApart}

-- ---- fields

-- the slot that is a node of a kind, nodes being counted from 1; null for 0
abbrev slot_at : Pool → ℕ → ℕ → ℕ
slot_at pool k n = if n == 0 then 0 else n + below pool k

record IsField (pool : Pool) (strides : List ℕ) (k j g : ℕ) : Type 0 where
  kind : k < length pool.sizes.kinds
  small : g < slice_index strides k
  few : node pool k j ≤ slots_of pool.sizes k
  back : slot_at pool k (node pool k j) ≡ j

-- the node of a slot above b slots
node_above : (b j : ℕ) → b < j → j < 2 ^ 64 → (if nat_lt (1 + b - 1) j then wrap (j + (2 ^ 64 - (1 + b - 1))) else 0) ≡ j - b
node_above b j above fits =
    let is : nat_lt (1 + b - 1) j ≡ true = grind (arith, nat_tests) in
    rw is (omega (arith, above, fits))

slot_above : (b j n : ℕ) → b < j → n ≡ j - b → (if n == 0 then 0 else n + (1 + b - 1)) ≡ j
slot_above b j n above same =
    let some : (n == 0) ≡ false = grind (arith, nat_tests) in
    rw some (omega (arith, above, same))

null_node : (b j : ℕ) → j ≡ 0 → (if nat_lt (1 + b - 1) j then wrap (j + (2 ^ 64 - (1 + b - 1))) else 0) ≡ 0
null_node b j none =
    let is : nat_lt (1 + b - 1) j ≡ false = grind (arith, nat_tests) in
    rw is refl

-- a slot of a kind stands above those below the kind, and no further than it has slots
slot_field : (pool : Pool) (strides : List ℕ) (k j g : ℕ) → HasStrides pool strides → k < length pool.sizes.kinds → g < slice_index strides k → 1 ≤ j → j ≤ pool.sizes.slots
    → kind_of pool.sizes j ≡ k → IsField pool strides k j g
slot_field pool strides k j g has kind small some few same =
    let stands = stands_in_range pool.sizes k j has.kinds some few same in
    let b = sum_before pool.sizes.kinds k in
    let above : b < j = omega (arith, stands.0) in
    let upto : j ≤ b + slots_of pool.sizes k = stands.1 in
    let fits : j < 2 ^ 64 = omega (arith, few, has.slots) in
    let is : node pool k j ≡ j - b = node_above b j above fits in
    record { kind = kind; small = small; few = omega (arith, is, upto); back = slot_above b j (node pool k j) above is }

null_field : (pool : Pool) (strides : List ℕ) (k j g : ℕ) → k < length pool.sizes.kinds → g < slice_index strides k → j ≡ 0 → IsField pool strides k j g
null_field pool strides k j g kind small none =
    let is : node pool k j ≡ 0 = null_node (sum_before pool.sizes.kinds k) j none in
    record { kind = kind; small = small; few = omega (arith, is); back = ap (slot_at pool k) is ∙ sym none }

kind_there : (pool : Pool) (strides : List ℕ) (k g : ℕ) → HasStrides pool strides → g < slice_index pool.fields k → k < length pool.sizes.kinds
kind_there pool strides k g has lt =
    ⊎_elim
    (λ (is : k < length pool.sizes.kinds). is)
    (λ past. let none : slice_index pool.fields k ≡ 0 = has.none k past in absurd (let f : ⊥ = omega (arith, lt, none) in f))
    (cases_lt k (length pool.sizes.kinds))

field_is : (pool : Pool) (strides : List ℕ) (k j g : ℕ) → HasStrides pool strides → has_field pool k j g ≡ true → IsField pool strides k j g
field_is pool strides k j g has is =
    let parts = and_parts (nat_lt g (slice_index pool.fields k)) (j == 0 || (nat_le j pool.sizes.slots && (kind_of pool.sizes j == k))) is in
    let lt : g < slice_index pool.fields k = (let t : nat_lt g (slice_index pool.fields k) ≡ true = parts.0 in grind (arith, nat_tests)) in
    let kind = kind_there pool strides k g has lt in
    let enough : slice_index pool.fields k ≤ slice_index strides k = has.fields k in
    let small : g < slice_index strides k = omega (arith, lt, enough) in
    ⊎_elim
    (λ null. null_field pool strides k j g kind small (eqb-true j 0 null))
    (λ other.
    let both = and_parts (nat_le j pool.sizes.slots) (kind_of pool.sizes j == k) (rw other at parts.1) in
    let some : 1 ≤ j = (let o : (j == 0) ≡ false = other in grind (arith, nat_tests)) in
    let few : j ≤ pool.sizes.slots = (let t : nat_le j pool.sizes.slots ≡ true = both.0 in grind (arith, nat_tests)) in
    slot_field pool strides k j g has kind small some few (eqb-true (kind_of pool.sizes j) k both.1))
    (cases_Bool (j == 0))

-- ---- the arithmetic of an index

-- n nodes of so many words and some words more: inside, and told by the quotient and the rest
record IsIndex (n s g c : ℕ) : Type 0 where
  inside : n ≤ c → wrap (wrap (n * s) + g) < (c + 1) * s
  quotient : wrap (wrap (n * s) + g) / s ≡ n
  rest : wrap (wrap (n * s) + g) % s ≡ g

index_1 : (n g c : ℕ) → n < 2 ^ 32 → g < 1 → IsIndex n 1 g c
index_1 n g c few small = record { inside = λ le. omega (arith, few, small, le); quotient = omega (arith, few, small); rest = omega (arith, few, small) }

index_2 : (n g c : ℕ) → n < 2 ^ 32 → g < 2 → IsIndex n 2 g c
index_2 n g c few small = record { inside = λ le. omega (arith, few, small, le); quotient = omega (arith, few, small); rest = omega (arith, few, small) }

index_4 : (n g c : ℕ) → n < 2 ^ 32 → g < 4 → IsIndex n 4 g c
index_4 n g c few small = record { inside = λ le. omega (arith, few, small, le); quotient = omega (arith, few, small); rest = omega (arith, few, small) }

index_is : (n s g c : ℕ) → IsStride s → n < 2 ^ 32 → g < s → IsIndex n s g c
index_is n s g c (inl one) few small = subst (λ (s : ℕ). IsIndex n s g c) (sym one) (index_1 n g c few (omega (arith, one, small)))
index_is n s g c (inr (inl two)) few small = subst (λ (s : ℕ). IsIndex n s g c) (sym two) (index_2 n g c few (omega (arith, two, small)))
index_is n s g c (inr (inr four)) few small = subst (λ (s : ℕ). IsIndex n s g c) (sym four) (index_4 n g c few (omega (arith, four, small)))

field_at : (pool : Pool) (strides : List ℕ) (k j g : ℕ) → HasStrides pool strides → IsField pool strides k j g → IsIndex (node pool k j) (slice_index strides k) g (slots_of pool.sizes k)
field_at pool strides k j g has is =
    let part : sum_before pool.sizes.kinds k + slots_of pool.sizes k ≤ pool.sizes.slots = subst (λ (n : ℕ). sum_before pool.sizes.kinds k + slots_of pool.sizes k ≤ n) has.kinds.whole (part_within pool.sizes.kinds k) in
    let few : node pool k j < 2 ^ 32 = omega (arith, is.few, part, has.slots) in
    index_is (node pool k j) (slice_index strides k) g (slots_of pool.sizes k) (has.stride k is.kind) few is.small

record IsRoot (x cells s : ℕ) : Type 0 where
  inside : wrap (wrap x * s) < cells * s
  quotient : wrap (wrap x * s) / s ≡ x

root_is : (x cells : ℕ) → x < cells → cells < 2 ^ 32 → IsRoot x cells (if nat_le cells 16 then 8 else 1)
root_is x cells lt few =
    ⊎_elim
    (λ (is : nat_le cells 16 ≡ true). rw is (record { inside = omega (arith, lt, few); quotient = omega (arith, lt, few) }))
    (λ (is : nat_le cells 16 ≡ false). rw is (record { inside = omega (arith, lt, few); quotient = omega (arith, lt, few) }))
    (cases_Bool (nat_le cells 16))

-- ---- places

less : (a b : ℕ) → nat_lt a b ≡ true → a < b
less a b is = grind (arith, nat_tests)

-- the word that an element is of
abbrev word_at : Pool → List ℕ → Array → ℕ → Word
word_at pool strides PhaseWord at = Phase
word_at pool strides Warnings at = Warning at
word_at pool strides (Hazards c) at = Hazard c at
word_at pool strides Statuses at = Status at
word_at pool strides Links at = Link at
word_at pool strides Heads at = Head at
word_at pool strides (Fields k) at = FieldOf (slot_at pool k (at / slice_index strides k)) (at % slice_index strides k)
word_at pool strides Roots at = Cell (at / root_stride pool)

tells : (pool : Pool) (strides : List ℕ) → HasStrides pool strides → (locals : ℕ → ℕ) (p : Place) → IsThere pool locals p
    → word_at pool strides (element pool strides locals p).array (element pool strides locals p).at ≡ place pool locals p
tells pool strides has locals places.Phase there = refl
tells pool strides has locals (places.Warning c) there = refl
tells pool strides has locals (places.Hazard c r) there = refl
tells pool strides has locals (places.Status j) there = refl
tells pool strides has locals (places.Field k j g) there =
    let is = field_is pool strides k (operand pool locals j) g has there.is in
    let index = field_at pool strides k (operand pool locals j) g has is in
    ap (λ (n : ℕ). FieldOf (slot_at pool k n) (field_index pool strides k (operand pool locals j) g % slice_index strides k)) index.quotient
    ∙ ap (λ (i : ℕ). FieldOf i (field_index pool strides k (operand pool locals j) g % slice_index strides k)) is.back
    ∙ ap (λ (h : ℕ). FieldOf (operand pool locals j) h) index.rest
tells pool strides has locals (places.Root x a) there =
    ap Cell (root_is (x + operand pool locals a) pool.sizes.cells (less (x + operand pool locals a) pool.sizes.cells there.within) has.cells).quotient
tells pool strides has locals (places.Head k) there = refl
tells pool strides has locals (places.Link j) there = refl

inside : (pool : Pool) (strides : List ℕ) → HasStrides pool strides → (locals : ℕ → ℕ) (p : Place) → IsThere pool locals p
    → (element pool strides locals p).at < array_size pool strides (element pool strides locals p).array
inside pool strides has locals places.Phase there = omega arith
inside pool strides has locals (places.Warning c) there = less (operand pool locals c) pool.sizes.callers there.within
inside pool strides has locals (places.Hazard c r) there =
    let parts = and_parts (nat_lt (operand pool locals c) pool.sizes.callers) (nat_lt (operand pool locals r) 8) there.within in
    rw parts.0 (less (operand pool locals r) 8 parts.1)
inside pool strides has locals (places.Status j) there = less (operand pool locals j) (pool.sizes.slots + 1) there.within
inside pool strides has locals (places.Field k j g) there =
    let is = field_is pool strides k (operand pool locals j) g has there.is in
    (field_at pool strides k (operand pool locals j) g has is).inside is.few
inside pool strides has locals (places.Root x a) there =
    (root_is (x + operand pool locals a) pool.sizes.cells (less (x + operand pool locals a) pool.sizes.cells there.within) has.cells).inside
inside pool strides has locals (places.Head k) there = less (operand pool locals k) (length pool.sizes.kinds) there.within
inside pool strides has locals (places.Link j) there = less (operand pool locals j) (pool.sizes.slots + 1) there.within

-- ---- one element for each word

abbrev field_element : Pool → List ℕ → ℕ → ℕ → ℕ → Element
field_element pool strides j g k = record { array = Fields k; at = field_index pool strides k j g }

-- the element of a word: the fields of a slot are in the array of its kind
abbrev element_of : Pool → List ℕ → Word → Element
element_of pool strides (Warning c) = record { array = Warnings; at = c }
element_of pool strides (Hazard c r) = record { array = Hazards c; at = r }
element_of pool strides (Status j) = record { array = Statuses; at = j }
element_of pool strides (FieldOf j g) = field_element pool strides j g (kind_of pool.sizes j)
element_of pool strides (Cell x) = record { array = Roots; at = root_index pool x }
element_of pool strides (Head k) = record { array = Heads; at = k }
element_of pool strides (Link j) = record { array = Links; at = j }
element_of pool strides _ = record { array = PhaseWord; at = 0 }

kind_told : (pool : Pool) (k j g : ℕ) → has_field pool k j g ≡ true → (j == 0) ≡ false → kind_of pool.sizes j ≡ k
kind_told pool k j g is other =
    let parts = and_parts (nat_lt g (slice_index pool.fields k)) (j == 0 || (nat_le j pool.sizes.slots && (kind_of pool.sizes j == k))) is in
    let both = and_parts (nat_le j pool.sizes.slots) (kind_of pool.sizes j == k) (rw other at parts.1) in
    eqb-true (kind_of pool.sizes j) k both.1

by_word : (pool : Pool) (strides : List ℕ) (locals : ℕ → ℕ) (p : Place) → IsThere pool locals p → is_null pool locals p ≡ false
    → element pool strides locals p ≡ element_of pool strides (place pool locals p)
by_word pool strides locals places.Phase there other = refl
by_word pool strides locals (places.Warning c) there other = refl
by_word pool strides locals (places.Hazard c r) there other = refl
by_word pool strides locals (places.Status j) there other = refl
by_word pool strides locals (places.Field k j g) there other =
    ap (field_element pool strides (operand pool locals j) g) (sym (kind_told pool k (operand pool locals j) g there.is other))
by_word pool strides locals (places.Root x a) there other = refl
by_word pool strides locals (places.Head k) there other = refl
by_word pool strides locals (places.Link j) there other = refl

abbrev is_null_word : Word → Bool
is_null_word (FieldOf j g) = j == 0
is_null_word _ = false

null_told : (pool : Pool) (locals : ℕ → ℕ) (p : Place) → is_null pool locals p ≡ is_null_word (place pool locals p)
null_told pool locals places.Phase = refl
null_told pool locals (places.Warning c) = refl
null_told pool locals (places.Hazard c r) = refl
null_told pool locals (places.Status j) = refl
null_told pool locals (places.Field k j g) = refl
null_told pool locals (places.Root x a) = refl
null_told pool locals (places.Head k) = refl
null_told pool locals (places.Link j) = refl

pub lvalues_apart : LvaluesStandApart
lvalues_apart pool strides has = record {
  within = inside pool strides has;
  apart = λ locals others p q here there same.
      sym (tells pool strides has locals p here) ∙ ap (λ (e : Element). word_at pool strides e.array e.at) same ∙ tells pool strides has others q there;
  one = λ locals others p q here there other same.
      let also : is_null pool others q ≡ false
      = null_told pool others q ∙ ap is_null_word (sym same) ∙ sym (null_told pool locals p) ∙ other in
      by_word pool strides locals p here other ∙ ap (element_of pool strides) same ∙ sym (by_word pool strides others q there also);
}
