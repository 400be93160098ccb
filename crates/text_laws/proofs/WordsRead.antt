-- How the grammar reads each word that the spelling writes.
use Rattle.std.specs.Prelude.{◌≡◌, ℕ, zero, suc, ◌+◌, ◌-◌, ◌^◌, ◌<◌, ◌≤◌, ◌&&◌, Bool, true, false, not, List, [], ◌∷◌, ◌++◌, map, length, Option, Some, None, Ok, decimal, slice_get, nat_le, nat_lt}
use Rattle.std.specs.List.{list_all, list_any, position, position_or_len}
use Rattle.std.specs.Str.{bytes_eq}
use Rattle.std.proofs.Common.{refl, ap, ◌∙◌, sym, arith}
use Rattle.std.proofs.Math.Numerals.{one-add}
use Rattle.std.proofs.lemmas.Bool.{and_parts, or_parts, lt-ltb, le-leb, ltb-true, not-true, false_from_ne_true}
use Rattle.std.proofs.lemmas.Bool.Decides.{nat_tests}
use Rattle.std.proofs.lemmas.Fmt.{decimal_digit}
use Rattle.std.proofs.lemmas.List.{append-nil, map-id}
use Rattle.std.proofs.lemmas.Option.{slice_get_within}
use Rattle.std.proofs.lemmas.Slice.Eq.{bytes_eq-Decides}
use Rattle.norm_lang.specs.declared.text.Reg.{Reg}
use Rattle.norm_lang.specs.declared.text.Reg.TheVariants.{Num, Ref}
use Rattle.norm_lang.specs.declared.text.FieldKind.{FieldKind}
use Rattle.norm_lang.specs.declared.text.FieldKind.TheVariants as holdings
use Rattle.norm_lang.specs.declared.text.Start.{Start}
use Rattle.norm_lang.specs.declared.text.Start.TheVariants as starts
use Rattle.norm_lang.specs.declared.text.FieldDecl.{FieldDecl}
use Rattle.norm_lang.specs.declared.text.RootDecl.{RootDecl}
use Rattle.norm_lang.specs.declared.text.Version.{Version}
use Rattle.norm_lang.specs.declared.text.Version.TheVariants.{First, Second}
use Rattle.norm_lang.specs.Spelling.{register_word, kind_name, owner_words, kind_words, start_word, field_name, root_name}
use Rattle.norm_lang.specs.LineWords.{is_name, number_in, register_of, register_in, kind_named, owner_at, Holding, OfNumbers, OfNodes, holding_at, kind_of_holding, spelled_kind, StartWord, Value, Null, At, start_in, is_great, start_of, is_owner, is_match}
use Rattle.norm_lang.specs.Instructions.{field_named, root_named}
use Rattle.norm_lang.specs.Limits.{is_number, is_register, is_kind, is_start, are_different}
use Rattle.text_laws.specs.StandsFor.{KindsOf}
use Rattle.oa_text.proofs.Again.{decimal_numeral, number_of_decimal}

-- a number
pub number_read : (n : ℕ) → is_number n ≡ true → number_in (decimal n) ≡ Ok (Some n)
number_read n small =
    let lt : n < 2 ^ 64 = ltb-true n (2 ^ 64) small in
    rw (decimal_numeral n lt, number_of_decimal n lt, small) refl

letter_read : (letter k : ℕ) → nat_lt k 8 ≡ true → register_in (letter ∷ decimal k) ≡ register_of letter k
letter_read letter k small =
    let lt : k < 8 = ltb-true k 8 small in
    let lt10 : k < 10 = omega arith in
    let within : nat_le 48 (48 + k) && nat_le (48 + k) 55 ≡ true = grind (arith, nat_tests) in
    let back : 48 + k - 48 ≡ k = omega arith in
    rw (decimal_digit k lt10, within, back) refl

-- a register
pub register_read : (r : Reg) → is_register r ≡ true → register_in (register_word r) ≡ Ok r
register_read (Num k) small = letter_read 110 k small
register_read (Ref k) small = letter_read 114 k small

-- what a first value's word says
abbrev pub start_read_as : Start → StartWord
start_read_as (starts.Value n) = Value (Some n)
start_read_as (starts.Node zero) = Null
start_read_as (starts.Node (suc j)) = At (Some (suc j))

-- a node that is of a kind is one of them
pub node_within : (owners : List ℕ) (j k : ℕ) → is_owner (slice_get owners j) k ≡ true → j < length owners
node_within owners j k is = go (slice_get owners j) refl is
  where
    go : (o : Option ℕ) → slice_get owners j ≡ o → is_owner o k ≡ true → j < length owners
    go None e is = let e : false ≡ true = is in absurd (let f : ⊥ = cc in f)
    go (Some owner) e is = slice_get_within owners j owner e

-- a first value, given initial nodes of these kinds
pub start_read : (owners : List ℕ) (kind : FieldKind) (start : Start) → length owners ≤ 256 → is_start owners kind start ≡ true → start_in kind (start_word start) ≡ Ok (start_read_as start)
start_read owners holdings.Number (starts.Value n) few is = rw (number_read n is) refl
start_read owners holdings.Number (starts.Node j) few is = let e : false ≡ true = is in absurd (let f : ⊥ = cc in f)
start_read owners (holdings.Reference k) (starts.Value n) few is = let e : false ≡ true = is in absurd (let f : ⊥ = cc in f)
start_read owners (holdings.Reference k) (starts.Node zero) few is = refl
start_read owners (holdings.Reference k) (starts.Node (suc j)) few is =
    let within : j < length owners = node_within owners j k is in
    let small : is_number (suc j) ≡ true = lt-ltb (suc j) (2 ^ 64) (omega arith) in
    rw (number_read (suc j) small) refl

pub start_fits : (start : Start) → is_great (start_read_as start) ≡ false
start_fits (starts.Value n) = refl
start_fits (starts.Node zero) = refl
start_fits (starts.Node (suc j)) = refl

pub start_found : (owners : List ℕ) (kind : FieldKind) (start : Start) → is_start owners kind start ≡ true → start_of (length owners) (start_read_as start) ≡ Ok start
start_found owners kind (starts.Value n) is = refl
start_found owners kind (starts.Node zero) is = refl
start_found owners holdings.Number (starts.Node (suc j)) is = let e : false ≡ true = is in absurd (let f : ⊥ = cc in f)
start_found owners (holdings.Reference k) (starts.Node (suc j)) is =
    let within : j < length owners = node_within owners j k is in
    rw (lt-ltb 0 (suc j) (omega arith), le-leb (suc j) (length owners) (omega arith)) refl

pub start_matches : (owners : List ℕ) (kind : FieldKind) (start : Start) → is_start owners kind start ≡ true → is_match owners kind start ≡ true
start_matches owners holdings.Number start is = refl
start_matches owners (holdings.Reference k) (starts.Value n) is = refl
start_matches owners (holdings.Reference k) (starts.Node zero) is = refl
start_matches owners (holdings.Reference k) (starts.Node (suc j)) is = is

-- names that are different: each stands first at its own place
same_bytes : (a : List ℕ) → bytes_eq a a ≡ true
same_bytes a = (bytes_eq-Decides a a).1 refl

pub other_bytes : (a b : List ℕ) → bytes_eq a b ≡ false → bytes_eq b a ≡ false
other_bytes a b other =
    false_from_ne_true (bytes_eq b a) (λ same. let is : b ≡ a = (bytes_eq-Decides b a).0 same in let e : false ≡ true = sym other ∙ (bytes_eq-Decides a b).1 (sym is) in let f : ⊥ = cc in f)

-- another item after the first has another name
behind : {A : Type 0} (name : A → List ℕ) (first : List ℕ) (items : List A) (at : ℕ) (item : A) → slice_get items at ≡ Some item
    → list_any (λ other. bytes_eq other first) (map name items) ≡ false → bytes_eq first (name item) ≡ false
behind name first [] at item is none = let f : ⊥ = cc in absurd f
behind name first (x ∷ items) zero item is none =
    let same : x ≡ item = cc in
    other_bytes (name item) first (ap (λ y. bytes_eq (name y) first) (sym same) ∙ (or_parts (bytes_eq (name x) first) (list_any (λ other. bytes_eq other first) (map name items)) none).0)
behind name first (x ∷ items) (suc at) item is none =
    behind name first items at item is (or_parts (bytes_eq (name x) first) (list_any (λ other. bytes_eq other first) (map name items)) none).1

found_at : {A : Type 0} (name : A → List ℕ) (items : List A) (at : ℕ) (item : A) → slice_get items at ≡ Some item → are_different (map name items) ≡ true
    → position_or_len (λ x. bytes_eq (name x) (name item)) items ≡ at
found_at name [] at item is different = let f : ⊥ = cc in absurd f
found_at name (x ∷ items) zero item is different =
    let same : x ≡ item = cc in
    rw (same, same_bytes (name item)) refl
found_at name (x ∷ items) (suc at) item is different =
    let parts = and_parts (not (list_any (λ other. bytes_eq other (name x)) (map name items))) (are_different (map name items)) different in
    let other : bytes_eq (name x) (name item) ≡ false = behind name (name x) items at item is (not-true (list_any (λ other. bytes_eq other (name x)) (map name items)) parts.0) in
    rw (other, found_at name items at item is parts.1) (one-add at)

-- the item so named is the item itself
pub named_at : {A : Type 0} (name : A → List ℕ) (items : List A) (at : ℕ) (item : A) → slice_get items at ≡ Some item → are_different (map name items) ≡ true
    → position (λ x. bytes_eq (name x) (name item)) items ≡ Some at
named_at name items at item is different =
    let within : nat_lt at (length items) ≡ true = lt-ltb at (length items) (slice_get_within items at item is) in
    rw (found_at name items at item is different, within) refl

passes_at : {A : Type 0} (test : A → Bool) (items : List A) (at : ℕ) (item : A) → slice_get items at ≡ Some item → list_all test items ≡ true → test item ≡ true
passes_at test [] at item is all = let f : ⊥ = cc in absurd f
passes_at test (x ∷ items) zero item is all =
    let same : x ≡ item = cc in
    ap test (sym same) ∙ (and_parts (test x) (list_all test items) all).0
passes_at test (x ∷ items) (suc at) item is all = passes_at test items at item is (and_parts (test x) (list_all test items) all).1

item_at : {A : Type 0} (items : List A) (at : ℕ) → at < length items → (item : A) × (slice_get items at ≡ Some item)
item_at [] at lt = absurd (omega arith)
item_at (x ∷ items) zero lt = (x, refl)
item_at (x ∷ items) (suc at) lt = item_at items at (omega arith)

-- the kinds of a text of a version, with different names
pub record AreKinds (version : Version) (kinds : List (List ℕ)) : Type 0 where
  pub of : KindsOf version kinds
  pub names : list_all is_name kinds ≡ true
  pub different : are_different kinds ≡ true

-- fields with different names
pub record AreFields (fields : List FieldDecl) : Type 0 where
  pub names : list_all (λ field. is_name field.name) fields ≡ true
  pub different : are_different (map (λ field. field.name) fields) ≡ true

pub record AreRoots (roots : List RootDecl) : Type 0 where
  pub names : list_all (λ root. is_name root.name) roots ≡ true
  pub different : are_different (map (λ root. root.name) roots) ≡ true

pub kind_spelled : (version : Version) (kinds : List (List ℕ)) (k : ℕ) → AreKinds version kinds → nat_lt k (length kinds) ≡ true → is_name (kind_name kinds k) ≡ true
kind_spelled version kinds k are within =
    let item = item_at kinds k (ltb-true k (length kinds) within) in
    rw item.1 (passes_at is_name kinds k item.0 item.1 are.names)

pub kind_found : (version : Version) (kinds : List (List ℕ)) (k : ℕ) → AreKinds version kinds → nat_lt k (length kinds) ≡ true → kind_named kinds (kind_name kinds k) ≡ Some k
kind_found version kinds k are within =
    let item = item_at kinds k (ltb-true k (length kinds) within) in
    rw item.1 (named_at (λ (kind : List ℕ). kind) kinds k item.0 item.1 (ap are_different (map-id kinds) ∙ are.different))

only_kind : (kinds : List (List ℕ)) (k : ℕ) → KindsOf First kinds → nat_lt k (length kinds) ≡ true → k ≡ 0
only_kind kinds k one within =
    let few : length kinds ≡ 1 = ap length one in
    let lt : k < length kinds = ltb-true k (length kinds) within in
    omega arith

-- a kind that a line means, before other words
pub owner_read : (version : Version) (kinds : List (List ℕ)) (k : ℕ) (rest : List (List ℕ)) → AreKinds version kinds → nat_lt k (length kinds) ≡ true
    → owner_at version kinds (owner_words version kinds k ++ rest) ≡ Ok (Some k, rest)
owner_read First kinds k rest are within = rw (only_kind kinds k are.of within) refl
owner_read Second kinds k rest are within = rw (kind_spelled Second kinds k are within, kind_found Second kinds k are within) refl

-- a kind that a line means, at its end
pub last_owner_read : (version : Version) (kinds : List (List ℕ)) (k : ℕ) → AreKinds version kinds → nat_lt k (length kinds) ≡ true
    → owner_at version kinds (owner_words version kinds k) ≡ Ok (Some k, [])
last_owner_read version kinds k are within = ap (owner_at version kinds) (sym (append-nil (owner_words version kinds k))) ∙ owner_read version kinds k [] are within

-- what a kind is read as
abbrev pub holding_of : FieldKind → Holding
holding_of holdings.Number = OfNumbers
holding_of (holdings.Reference k) = OfNodes (Some k)

pub holding_kind : (kind : FieldKind) → kind_of_holding (holding_of kind) ≡ Ok kind
holding_kind holdings.Number = refl
holding_kind (holdings.Reference k) = refl

pub holding_spelled : (kind : FieldKind) → spelled_kind (holding_of kind) ≡ kind
holding_spelled holdings.Number = refl
holding_spelled (holdings.Reference k) = refl

-- what a field or a root holds, before other words
pub holding_read : (version : Version) (kinds : List (List ℕ)) (kind : FieldKind) (rest : List (List ℕ)) → AreKinds version kinds → is_kind (length kinds) kind ≡ true
    → holding_at version kinds (kind_words version kinds kind ++ rest) ≡ Ok (holding_of kind, rest)
holding_read version kinds holdings.Number rest are is = refl
holding_read version kinds (holdings.Reference k) rest are is = rw (owner_read version kinds k rest are is) refl

-- what a field holds, at the end of its line
pub last_holding_read : (version : Version) (kinds : List (List ℕ)) (kind : FieldKind) → AreKinds version kinds → is_kind (length kinds) kind ≡ true
    → holding_at version kinds (kind_words version kinds kind) ≡ Ok (holding_of kind, [])
last_holding_read version kinds kind are is = ap (holding_at version kinds) (sym (append-nil (kind_words version kinds kind))) ∙ holding_read version kinds kind [] are is

pub field_spelled : (fields : List FieldDecl) (f : ℕ) → AreFields fields → nat_lt f (length fields) ≡ true → is_name (field_name fields f) ≡ true
field_spelled fields f are within =
    let item = item_at fields f (ltb-true f (length fields) within) in
    rw item.1 (passes_at (λ field. is_name field.name) fields f item.0 item.1 are.names)

pub field_read : (fields : List FieldDecl) (f : ℕ) → AreFields fields → nat_lt f (length fields) ≡ true → field_named fields (field_name fields f) ≡ Ok f
field_read fields f are within =
    let item = item_at fields f (ltb-true f (length fields) within) in
    rw (item.1, named_at (λ (field : FieldDecl). field.name) fields f item.0 item.1 are.different) refl

pub root_spelled : (roots : List RootDecl) (x : ℕ) → AreRoots roots → nat_lt x (length roots) ≡ true → is_name (root_name roots x) ≡ true
root_spelled roots x are within =
    let item = item_at roots x (ltb-true x (length roots) within) in
    rw item.1 (passes_at (λ root. is_name root.name) roots x item.0 item.1 are.names)

pub root_read : (roots : List RootDecl) (x : ℕ) → AreRoots roots → nat_lt x (length roots) ≡ true → root_named roots (root_name roots x) ≡ Ok x
root_read roots x are within =
    let item = item_at roots x (ltb-true x (length roots) within) in
    rw (item.1, named_at (λ (root : RootDecl). root.name) roots x item.0 item.1 are.different) refl
