-- Declarations in the order of the kinds: rising numbers, and the fields of each kind.
use Rattle.std.specs.Prelude.{◌≡◌, ℕ, zero, suc, ◌+◌, ◌*◌, ◌<◌, ◌≤◌, max, ◌⊎◌, Bool, true, false, List, [], ◌∷◌, ◌++◌, map, length, get_or, replicate, Some, nat_lt, nat_le, ◌==◌, if◌then◌else◌}
use Rattle.std.specs.List.{list_all}
use Rattle.std.proofs.Common.{refl, ap, ◌∙◌, sym, arith, inl, inr, append_assoc, length-append}
use Rattle.std.proofs.Math.Nat.{max-eq_left, max-eq_right, le-max_left, le-max_right, max-le}
use Rattle.std.proofs.lemmas.Bool.{and_from, and_parts, cases_Bool, or_cases, eqb-true, eq-eqb, ltb-true, leb-true, lt-ltb, le-ltb, le-leb}
use Rattle.std.proofs.lemmas.Bool.Decides.{nat_tests}
use Rattle.std.proofs.lemmas.List.{append-nil, map-append}
use Rattle.std.proofs.lemmas.List.Folds.{list_all-append, list_all-map}
use Rattle.std.proofs.lemmas.List.Elements.{filter-append}
use Rattle.norm_lang.specs.declared.text.FieldDecl.{FieldDecl}
use Rattle.norm_lang.specs.KindFields.{fields_of}
use Rattle.norm_lang.specs.Declarations.{groups_begun, may_follow}
use Rattle.norm_lang.specs.Limits.{has_between, is_rising, has_groups}

-- every item that passes one test passes another
pub all_imply : {A : Type 0} (p q : A → Bool) (items : List A) → ((x : A) → p x ≡ true → q x ≡ true) → list_all p items ≡ true → list_all q items ≡ true
all_imply p q [] implies all = refl
all_imply p q (x ∷ items) implies all =
    let parts = and_parts (p x) (list_all p items) all in
    and_from (q x) (list_all q items) (implies x parts.0) (all_imply p q items implies parts.1)

-- an item among those that pass does
pub passes_at : {A : Type 0} (test : A → Bool) (items : List A) (at : ℕ) (other : A) → at < length items → list_all test items ≡ true → test (get_or items at other) ≡ true
passes_at test [] at other within all = absurd (let no : ⊥ = omega (arith, within) in no)
passes_at test (x ∷ items) zero other within all = (and_parts (test x) (list_all test items) all).0
passes_at test (x ∷ items) (suc at) other within all = passes_at test items at other (omega (arith, within)) (and_parts (test x) (list_all test items) all).1

-- rising numbers, and one at least as great
rising_pushed : (numbers : List ℕ) (n : ℕ) → is_rising numbers ≡ true → list_all (λ m. nat_le m n) numbers ≡ true → is_rising (numbers ++ n ∷ []) ≡ true
rising_pushed [] n rising below = refl
rising_pushed (m ∷ []) n rising below = below
rising_pushed (m ∷ k ∷ numbers) n rising below =
    let order = and_parts (nat_le m k) (is_rising (k ∷ numbers)) rising in
    let parts = and_parts (nat_le m n) (list_all (λ m. nat_le m n) (k ∷ numbers)) below in
    and_from (nat_le m k) _ order.0 (rising_pushed (k ∷ numbers) n order.1 parts.1)

all_pushed_too : (numbers : List ℕ) (n : ℕ) → list_all (λ m. nat_le m n) numbers ≡ true → list_all (λ m. nat_le m n) (numbers ++ n ∷ []) ≡ true
all_pushed_too numbers n below =
    let same : nat_le n n ≡ true = le-leb n n (omega arith) in
    list_all-append (λ m. nat_le m n) numbers (n ∷ []) ∙ and_from _ _ below (and_from _ _ same refl)

-- rising numbers, and one at least as great any number of times
pub rising_repeated : (numbers : List ℕ) (count n : ℕ) → is_rising numbers ≡ true → list_all (λ m. nat_le m n) numbers ≡ true → is_rising (numbers ++ replicate count n) ≡ true
rising_repeated numbers zero n rising below = ap is_rising (append-nil numbers) ∙ rising
rising_repeated numbers (suc count) n rising below =
    ap is_rising (sym (append_assoc numbers (n ∷ []) (replicate count n)))
    ∙ rising_repeated (numbers ++ n ∷ []) count n (rising_pushed numbers n rising below) (all_pushed_too numbers n below)

-- a number passes any number of times if it passes once
pub all_repeated : (test : ℕ → Bool) (count n : ℕ) → test n ≡ true → list_all test (replicate count n) ≡ true
all_repeated test zero n passes = refl
all_repeated test (suc count) n passes = and_from (test n) (list_all test (replicate count n)) passes (all_repeated test count n passes)

abbrev owners_of_fields : List FieldDecl → List ℕ
owners_of_fields fields = map (λ field. field.owner) fields

-- a kind that has a field is among those begun
all_begun : (fields : List FieldDecl) (n : ℕ) → groups_begun fields ≤ n + 1 → list_all (λ (field : FieldDecl). nat_le field.owner n) fields ≡ true
all_begun [] n few = refl
all_begun (field ∷ fields) n few =
    let first : field.owner + 1 ≤ groups_begun (field ∷ fields) = le-max_left (field.owner + 1) (groups_begun fields) in
    let others : groups_begun fields ≤ groups_begun (field ∷ fields) = le-max_right (field.owner + 1) (groups_begun fields) in
    and_from _ _ (le-leb field.owner n (omega (arith, first, few))) (all_begun fields n (omega (arith, others, few)))

-- a field of a kind that none before it passes
begun_pushed : (fields : List FieldDecl) (field : FieldDecl) → list_all (λ (other : FieldDecl). nat_le other.owner field.owner) fields ≡ true
    → groups_begun (fields ++ field ∷ []) ≡ field.owner + 1
begun_pushed [] field below = max-eq_left (omega arith)
begun_pushed (other ∷ fields) field below =
    let parts = and_parts (nat_le other.owner field.owner) (list_all (λ (other : FieldDecl). nat_le other.owner field.owner) fields) below in
    let least : other.owner ≤ field.owner = leb-true other.owner field.owner parts.0 in
    ap (max (other.owner + 1)) (begun_pushed fields field parts.1) ∙ max-eq_right (omega (arith, least))

fields_pushed_of : (k : ℕ) (fields : List FieldDecl) (field : FieldDecl) → field.owner ≡ k → fields_of k (fields ++ field ∷ []) ≡ fields_of k fields ++ field ∷ []
fields_pushed_of k fields field is =
    let same : (field.owner == k) ≡ true = eq-eqb field.owner k is in
    filter-append (λ (field : FieldDecl). field.owner == k) fields (field ∷ []) ∙ rw same refl

fields_pushed_past : (k : ℕ) (fields : List FieldDecl) (field : FieldDecl) → k < field.owner → fields_of k (fields ++ field ∷ []) ≡ fields_of k fields
fields_pushed_past k fields field past =
    let other : (field.owner == k) ≡ false = grind (arith, nat_tests) in
    filter-append (λ (field : FieldDecl). field.owner == k) fields (field ∷ []) ∙ rw other (append-nil (fields_of k fields))

-- a field of a later kind changes no earlier group
groups_kept : (n : ℕ) (fields : List FieldDecl) (field : FieldDecl) → n ≤ field.owner → has_groups n fields ≡ true → has_groups n (fields ++ field ∷ []) ≡ true
groups_kept zero fields field past groups = refl
groups_kept (suc k) fields field past groups =
    let parts = and_parts (has_between 1 4 (fields_of k fields)) (has_groups k fields) groups in
    and_from _ _ (ap (has_between 1 4) (fields_pushed_past k fields field (omega arith)) ∙ parts.0) (groups_kept k fields field (omega arith) parts.1)

one_more : (items : List FieldDecl) (item : FieldDecl) → nat_lt (length items) 4 ≡ true → has_between 1 4 (items ++ item ∷ []) ≡ true
one_more items item room =
    let few : length items < 4 = ltb-true (length items) 4 room in
    let longer : length (items ++ item ∷ []) ≡ length items + 1 = length-append items (item ∷ []) in
    and_from _ _ (le-leb 1 (length (items ++ item ∷ [])) (omega (arith, longer))) (le-leb (length (items ++ item ∷ [])) 4 (omega (arith, longer, few)))

-- a field that may follow, with room in its group
pub record Follows (fields : List FieldDecl) (field : FieldDecl) : Type 0 where
  pub turn : may_follow (groups_begun fields) (Some field.owner) ≡ true
  pub room : nat_lt (length (fields_of field.owner fields)) 4 ≡ true

-- the groups before the field's own
groups_before : (fields : List FieldDecl) (owner : ℕ) → may_follow (groups_begun fields) (Some owner) ≡ true → has_groups (groups_begun fields) fields ≡ true
    → (groups_begun fields ≤ owner + 1) × (has_groups owner fields ≡ true)
groups_before fields owner turn groups = elim (or_cases (owner + 1 == groups_begun fields) (owner == groups_begun fields) turn) [
  | inl again ↦ let same : owner + 1 ≡ groups_begun fields = eqb-true _ _ again in (omega (arith, same), less same)
  | inr new ↦ let same : owner ≡ groups_begun fields = eqb-true _ _ new in (omega (arith, same), ap (λ n. has_groups n fields) same ∙ groups)
]
  where
    less : owner + 1 ≡ groups_begun fields → has_groups owner fields ≡ true
    less same =
        let next : suc owner ≡ groups_begun fields = omega (arith, same) in
        (and_parts (has_between 1 4 (fields_of owner fields)) (has_groups owner fields) (ap (λ n. has_groups n fields) next ∙ groups)).1

-- rising groups, each of 1 to 4 fields, for each kind begun
pub record AreGrouped (fields : List FieldDecl) : Type 0 where
  pub rising : is_rising (map (λ field. field.owner) fields) ≡ true
  pub groups : has_groups (groups_begun fields) fields ≡ true

pub grouped_pushed : (fields : List FieldDecl) (field : FieldDecl) → AreGrouped fields → Follows fields field → AreGrouped (fields ++ field ∷ [])
grouped_pushed fields field are next = record { rising = rising; groups = groups }
  where
    before : (groups_begun fields ≤ field.owner + 1) × (has_groups field.owner fields ≡ true)
    before = groups_before fields field.owner next.turn are.groups

    below : list_all (λ (other : FieldDecl). nat_le other.owner field.owner) fields ≡ true
    below = all_begun fields field.owner before.0

    rising : is_rising (map (λ field. field.owner) (fields ++ field ∷ [])) ≡ true
    rising =
        ap is_rising (map-append (λ (field : FieldDecl). field.owner) fields (field ∷ []))
        ∙ rising_pushed (owners_of_fields fields) field.owner are.rising (list_all-map (λ m. nat_le m field.owner) (λ (field : FieldDecl). field.owner) fields ∙ below)

    groups : has_groups (groups_begun (fields ++ field ∷ [])) (fields ++ field ∷ []) ≡ true
    groups =
        let begun : groups_begun (fields ++ field ∷ []) ≡ suc field.owner = let e = begun_pushed fields field below in omega (arith, e) in
        ap (λ n. has_groups n (fields ++ field ∷ [])) begun
        ∙ and_from _ _ (ap (has_between 1 4) (fields_pushed_of field.owner fields field refl) ∙ one_more (fields_of field.owner fields) field next.room)
        (groups_kept field.owner fields field (omega arith) before.1)

-- how many fields are of the first kinds, so many
abbrev owned_below : ℕ → List FieldDecl → ℕ
owned_below n [] = 0
owned_below n (field ∷ fields) = if nat_lt field.owner n then owned_below n fields + 1 else owned_below n fields

none_owned : (fields : List FieldDecl) → owned_below 0 fields ≡ 0
none_owned [] = refl
none_owned (field ∷ fields) =
    let none : nat_lt field.owner 0 ≡ false = le-ltb field.owner 0 (omega arith) in
    rw none (none_owned fields)

one_kind_more : (n : ℕ) (fields : List FieldDecl) → owned_below (suc n) fields ≡ owned_below n fields + length (fields_of n fields)
one_kind_more n [] = refl
one_kind_more n (field ∷ fields) = go (one_kind_more n fields) (cases_Bool (nat_lt field.owner n)) (cases_Bool (field.owner == n))
  where
    go : owned_below (suc n) fields ≡ owned_below n fields + length (fields_of n fields)
        → (nat_lt field.owner n ≡ true) ⊎ (nat_lt field.owner n ≡ false) → ((field.owner == n) ≡ true) ⊎ ((field.owner == n) ≡ false)
        → owned_below (suc n) (field ∷ fields) ≡ owned_below n (field ∷ fields) + length (fields_of n (field ∷ fields))
    go others (inl less) (inl same) = let no : ⊥ = (let a = ltb-true _ _ less in let b = eqb-true _ _ same in omega (arith, a, b)) in absurd no
    go others (inl less) (inr other) =
        let within : nat_lt field.owner (suc n) ≡ true = grind (arith, nat_tests) in
        rw (within, less, other) (omega (arith, others))
    go others (inr past) (inl same) =
        let within : nat_lt field.owner (suc n) ≡ true = grind (arith, nat_tests) in
        rw (within, past, same) (omega (arith, others))
    go others (inr past) (inr other) =
        let beyond : nat_lt field.owner (suc n) ≡ false = grind (arith, nat_tests) in
        rw (beyond, past, other) others

all_owned : (n : ℕ) (fields : List FieldDecl) → list_all (λ (field : FieldDecl). nat_lt field.owner n) fields ≡ true → owned_below n fields ≡ length fields
all_owned n [] all = refl
all_owned n (field ∷ fields) all =
    let parts = and_parts (nat_lt field.owner n) (list_all (λ (field : FieldDecl). nat_lt field.owner n) fields) all in
    let k = all_owned n fields parts.1 in
    rw parts.0 (omega (arith, k))

few_owned : (n : ℕ) (fields : List FieldDecl) → has_groups n fields ≡ true → owned_below n fields ≤ 4 * n
few_owned zero fields groups = let k = none_owned fields in omega (arith, k)
few_owned (suc n) fields groups =
    let parts = and_parts (has_between 1 4 (fields_of n fields)) (has_groups n fields) groups in
    let k = one_kind_more n fields in
    let few = few_owned n fields parts.1 in
    let group : length (fields_of n fields) ≤ 4 = leb-true _ 4 (and_parts (nat_le 1 (length (fields_of n fields))) (nat_le (length (fields_of n fields)) 4) parts.0).1 in
    omega (arith, k, few, group)

-- at most four fields for each of the kinds
pub few_grouped : (n : ℕ) (fields : List FieldDecl) → has_groups n fields ≡ true → list_all (λ (field : FieldDecl). nat_lt field.owner n) fields ≡ true → length fields ≤ 4 * n
few_grouped n fields groups all = let k = all_owned n fields all in let few = few_owned n fields groups in omega (arith, k, few)

-- with the kinds declared, so many of them are begun at most
pub few_begun : (kinds : ℕ) (fields : List FieldDecl) → list_all (λ (field : FieldDecl). nat_lt field.owner kinds) fields ≡ true → groups_begun fields ≤ kinds
few_begun kinds [] all = omega arith
few_begun kinds (field ∷ fields) all =
    let parts = and_parts (nat_lt field.owner kinds) (list_all (λ (field : FieldDecl). nat_lt field.owner kinds) fields) all in
    let first : field.owner < kinds = ltb-true _ _ parts.0 in
    max-le (omega (arith, first)) (few_begun kinds fields parts.1)

-- so far as the kinds are begun, each field is of one of them
pub all_of_begun : (fields : List FieldDecl) → list_all (λ (field : FieldDecl). nat_lt field.owner (groups_begun fields)) fields ≡ true
all_of_begun fields = go fields (groups_begun fields) (omega arith)
  where
    go : (fields : List FieldDecl) (n : ℕ) → groups_begun fields ≤ n → list_all (λ (field : FieldDecl). nat_lt field.owner n) fields ≡ true
    go [] n few = refl
    go (field ∷ fields) n few =
        let first : field.owner + 1 ≤ groups_begun (field ∷ fields) = le-max_left (field.owner + 1) (groups_begun fields) in
        let others : groups_begun fields ≤ groups_begun (field ∷ fields) = le-max_right (field.owner + 1) (groups_begun fields) in
        and_from _ _ (lt-ltb field.owner n (omega (arith, first, few))) (go fields n (omega (arith, others, few)))
