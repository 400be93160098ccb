-- Each word that the grammar reads is spelled as the spelling writes what it says.
use Rattle.std.specs.Prelude.{◌≡◌, ℕ, zero, suc, ◌+◌, ◌-◌, ◌*◌, ◌/◌, ◌%◌, ◌^◌, ◌<◌, ◌≤◌, ◌&&◌, Bool, true, false, List, [], ◌∷◌, ◌++◌, length, fold, Option, Some, None, Result, Ok, IfOk, decimal, slice_get, codes, nat_le, nat_lt, ◌==◌, if◌then◌else◌}
use Rattle.std.specs.List.{list_all, position, position_or_len}
use Rattle.std.specs.Str.{bytes_eq}
use Rattle.std.proofs.Common.{refl, ap, ◌∙◌, sym, arith, append_assoc}
use Rattle.std.proofs.Math.Numerals.{one-add}
use Rattle.std.proofs.lemmas.Bool.{and_parts, ltb-true, eqb-true}
use Rattle.std.proofs.lemmas.Bool.Decides.{nat_tests}
use Rattle.std.proofs.lemmas.Fmt.{decimal_step, decimal_digit}
use Rattle.std.proofs.lemmas.List.{append-nil}
use Rattle.std.proofs.lemmas.Slice.Eq.{bytes_eq-Decides}
use Rattle.oa_text.specs.Numbers.{is_digit, is_numeral, with_digit, number_of}
use Rattle.norm_lang.specs.declared.text.Reg.{Reg}
use Rattle.norm_lang.specs.declared.text.FieldKind.{FieldKind}
use Rattle.norm_lang.specs.declared.text.FieldKind.TheVariants as holdings
use Rattle.norm_lang.specs.declared.text.FieldDecl.{FieldDecl}
use Rattle.norm_lang.specs.declared.text.RootDecl.{RootDecl}
use Rattle.norm_lang.specs.declared.text.Version.{Version}
use Rattle.norm_lang.specs.declared.text.Version.TheVariants.{First, Second}
use Rattle.norm_lang.specs.Faults.{◌>>=◌, or_fault, form_fault, unknown_name}
use Rattle.norm_lang.specs.Instructions.{field_named, root_named}
use Rattle.norm_lang.specs.LineWords.{word_at, end_at, is_name, name_at, number_in, number_at, is_positive, positive_at, value_of, up_to, register_of, register_in, register_at, kind_named, owner_at, Holding, OfNumbers, OfNodes, holding_at, kind_of_holding, StartWord, Value, At, node_in, start_in, start_at, start_of}
use Rattle.norm_lang.specs.Spelling.{register_word, name_of_kind, kind_name, owner_words, kind_words, start_word, name_of_field, field_name, name_of_root, root_name}
use Rattle.text_laws.proofs.Readings.{then_has, demanded, either}

-- bytes that are found equal are the same
pub same_word : (a b : List ℕ) → bytes_eq a b ≡ true → a ≡ b
same_word a b same = (bytes_eq-Decides a b).0 same

-- more digits make no smaller number
digits_grow : (n : ℕ) (digits : List ℕ) → n ≤ fold with_digit n digits
digits_grow n [] = omega arith
digits_grow n (d ∷ digits) = let more : with_digit n d ≤ fold with_digit (with_digit n d) digits = digits_grow (with_digit n d) digits in omega (arith, more)

-- a number above 0 and further digits
digits_said : (n : ℕ) (digits : List ℕ) → 1 ≤ n → list_all is_digit digits ≡ true → fold with_digit n digits < 2 ^ 64 → decimal (fold with_digit n digits) ≡ decimal n ++ digits
digits_said n [] some all fits = sym (append-nil (decimal n))
digits_said n (d ∷ digits) some all fits =
    let parts = and_parts (is_digit d) (list_all is_digit digits) all in
    let least : nat_le 48 d ≡ true = (and_parts (nat_le 48 d) (nat_le d 57) parts.0).0 in
    let most : nat_le d 57 ≡ true = (and_parts (nat_le 48 d) (nat_le d 57) parts.0).1 in
    let low : 48 ≤ d = grind (arith, nat_tests) in
    let high : d ≤ 57 = grind (arith, nat_tests) in
    let m = n * 10 + (d - 48) in
    let big : 10 ≤ m = omega arith in
    let grown : m ≤ fold with_digit m digits = digits_grow m digits in
    let small : m < 2 ^ 64 = omega (arith, grown, fits) in
    let tens : m / 10 ≡ n = omega arith in
    let last : 48 + m % 10 ≡ d = omega arith in
    digits_said m digits (omega arith) parts.1 fits
    ∙ ap (λ l. l ++ digits) (decimal_step m big small ∙ (rw (tens, last) refl))
    ∙ append_assoc (decimal n) (d ∷ []) digits

-- a numeral is the decimal spelling of its number
pub numeral_said : (word : List ℕ) → is_numeral word ≡ true → number_of word < 2 ^ 64 → word ≡ decimal (number_of word)
numeral_said [] is fits = let e : false ≡ true = is in absurd (let f : ⊥ = cc in f)
numeral_said (b ∷ bytes) is fits = go (b == 48) refl is
  where
    go : (t : Bool) → (b == 48) ≡ t → (if t then length bytes == 0 else is_digit b && list_all is_digit bytes) ≡ true → b ∷ bytes ≡ decimal (number_of (b ∷ bytes))
    go true e only = zero_said b bytes (eqb-true b 48 e) (eqb-true (length bytes) 0 only)
      where
        zero_said : (b : ℕ) (bytes : List ℕ) → b ≡ 48 → length bytes ≡ 0 → b ∷ bytes ≡ decimal (number_of (b ∷ bytes))
        zero_said b [] is none = rw is (sym (decimal_digit 0 (omega arith)))
        zero_said b (c ∷ bytes) is none = absurd (omega arith)
    go false e all =
        let parts = and_parts (is_digit b) (list_all is_digit bytes) all in
        let range = and_parts (nat_le 48 b) (nat_le b 57) parts.0 in
        let low_test : nat_le 48 b ≡ true = range.0 in
        let high_test : nat_le b 57 ≡ true = range.1 in
        let some : 1 ≤ with_digit 0 b = grind (arith, nat_tests) in
        let small : with_digit 0 b < 10 = grind (arith, nat_tests) in
        let same : 48 + with_digit 0 b ≡ b = grind (arith, nat_tests) in
        let first : decimal (with_digit 0 b) ≡ b ∷ [] = decimal_digit (with_digit 0 b) small ∙ ap (λ k. k ∷ []) same in
        sym (digits_said (with_digit 0 b) bytes some parts.1 fits ∙ ap (λ l. l ++ bytes) first)

-- a word that is read as a number is that number's decimal spelling
pub record SaysNumber (word : List ℕ) (n : Option ℕ) : Type 0 where
  pub says : (v : ℕ) → n ≡ Some v → word ≡ decimal v

pub number_in_said : (word : List ℕ) → IfOk (number_in word) (SaysNumber word)
number_in_said word = either (is_numeral word) _ _ (SaysNumber word) (λ is. record { says = λ v same. go is v (nat_lt (number_of word) (2 ^ 64)) refl same }) (λ _. tt)
  where
    go : is_numeral word ≡ true → (v : ℕ) (t : Bool) → nat_lt (number_of word) (2 ^ 64) ≡ t → (if t then Some (number_of word) else None) ≡ Some v → word ≡ decimal v
    go is v true e same = let n : number_of word ≡ v = cc in numeral_said word is (ltb-true (number_of word) (2 ^ 64) e) ∙ ap decimal n
    go is v false e same = let f : ⊥ = cc in absurd f

number_at_said : (word : List ℕ) (rest : List (List ℕ)) → IfOk (number_at (word ∷ rest)) (λ t. (t.1 ≡ rest) × SaysNumber word t.0)
number_at_said word rest = then_has (number_in word) _ (SaysNumber word) _ (number_in_said word) λ n said. (refl, said)

letter_said : (letter digit : ℕ) → nat_le 48 digit && nat_le digit 55 ≡ true → IfOk (register_of letter (digit - 48)) (λ r. letter ∷ digit ∷ [] ≡ register_word r)
letter_said letter digit within =
    let parts = and_parts (nat_le 48 digit) (nat_le digit 55) within in
    let low : nat_le 48 digit ≡ true = parts.0 in
    let high : nat_le digit 55 ≡ true = parts.1 in
    let small : digit - 48 < 10 = grind (arith, nat_tests) in
    let same : 48 + (digit - 48) ≡ digit = grind (arith, nat_tests) in
    let spelled : digit ∷ [] ≡ decimal (digit - 48) = sym (decimal_digit (digit - 48) small ∙ (rw same refl)) in
    either (letter == 110) _ _ _ (λ e. ap (λ l. letter ∷ l) spelled ∙ ap (λ l. l ∷ decimal (digit - 48)) (eqb-true letter 110 e)) λ _.
    either (letter == 114) _ _ _ (λ e. ap (λ l. letter ∷ l) spelled ∙ ap (λ l. l ∷ decimal (digit - 48)) (eqb-true letter 114 e)) λ _. tt

-- a register
pub register_in_said : (word : List ℕ) → IfOk (register_in word) (λ r. word ≡ register_word r)
register_in_said [] = tt
register_in_said (letter ∷ []) = tt
register_in_said (letter ∷ digit ∷ []) = either (nat_le 48 digit && nat_le digit 55) _ _ _ (λ e. letter_said letter digit e) (λ _. tt)
register_in_said (letter ∷ digit ∷ more ∷ rest) = tt

-- a first value: what it is with so many nodes is spelled as the word
pub record SaysStart (word : List ℕ) (read : StartWord) : Type 0 where
  pub says : (count : ℕ) → IfOk (start_of count read) (λ start. word ≡ start_word start)

value_said : (word : List ℕ) (n : Option ℕ) → SaysNumber word n → SaysStart word (Value n)
value_said word None said = record { says = λ count. tt }
value_said word (Some n) said = record { says = λ count. said.says n refl }

at_said : (b : ℕ) (bytes : List ℕ) (j : Option ℕ) → (b == 64) ≡ true → SaysNumber bytes j → SaysStart (b ∷ bytes) (At j)
at_said b bytes None sign said = record { says = λ count. tt }
at_said b bytes (Some zero) sign said = record { says = λ count. tt }
at_said b bytes (Some (suc j)) sign said = record {
  says = λ count. either (nat_lt 0 (suc j) && nat_le (suc j) count) _ _ _
      (λ _. ap (λ l. b ∷ l) (said.says (suc j) refl) ∙ ap (λ l. l ∷ decimal (suc j)) (eqb-true b 64 sign)) (λ _. tt);
}

node_in_said : (word : List ℕ) → IfOk (node_in word) (SaysStart word)
node_in_said [] = tt
node_in_said (b ∷ bytes) = demanded form_fault (b == 64) _ _ λ sign. then_has (number_in bytes) _ (SaysNumber bytes) _ (number_in_said bytes) λ j said. at_said b bytes j sign said

pub start_in_said : (kind : FieldKind) (word : List ℕ) → IfOk (start_in kind word) (SaysStart word)
start_in_said holdings.Number word = then_has (number_in word) _ (SaysNumber word) _ (number_in_said word) λ n said. value_said word n said
start_in_said (holdings.Reference k) word =
    either (bytes_eq word (codes "null")) _ _ _ (λ e. record { says = λ count. same_word word (codes "null") e }) (λ _. node_in_said word)

-- a number of an item among so many, found by its name
place_named : {A : Type 0} (name : A → List ℕ) (shown : Option A → List ℕ) (wanted : List ℕ) (items : List A) → ((x : A) → shown (Some x) ≡ name x)
    → nat_lt (position_or_len (λ x. bytes_eq (name x) wanted) items) (length items) ≡ true
    → wanted ≡ shown (slice_get items (position_or_len (λ x. bytes_eq (name x) wanted) items))
place_named name shown wanted [] shows within = let f : ⊥ = (let lt = ltb-true 0 0 within in omega (arith, lt)) in absurd f
place_named name shown wanted (x ∷ items) shows within = go (bytes_eq (name x) wanted) refl (λ less. place_named name shown wanted items shows less)
  where
    place : ℕ
    place = position_or_len (λ x. bytes_eq (name x) wanted) items

    go : (t : Bool) → bytes_eq (name x) wanted ≡ t → (nat_lt place (length items) ≡ true → wanted ≡ shown (slice_get items place))
        → wanted ≡ shown (slice_get (x ∷ items) (position_or_len (λ x. bytes_eq (name x) wanted) (x ∷ items)))
    go true e others = rw e (sym (same_word (name x) wanted e) ∙ sym (shows x))
    go false e others =
        let later : nat_lt (1 + place) (suc (length items)) ≡ true = rw e at within in
        let less : nat_lt place (length items) ≡ true = grind (arith, nat_tests) in
        rw (e, one-add place) (others less)

found_named : {A : Type 0} (name : A → List ℕ) (shown : Option A → List ℕ) (wanted : List ℕ) (items : List A) → ((x : A) → shown (Some x) ≡ name x)
    → IfOk (or_fault unknown_name (position (λ x. bytes_eq (name x) wanted) items)) (λ at. wanted ≡ shown (slice_get items at))
found_named name shown wanted items shows = go (nat_lt (position_or_len (λ x. bytes_eq (name x) wanted) items) (length items)) refl
  where
    place : ℕ
    place = position_or_len (λ x. bytes_eq (name x) wanted) items

    go : (t : Bool) → nat_lt place (length items) ≡ t → IfOk (or_fault unknown_name (if t then Some place else None)) (λ at. wanted ≡ shown (slice_get items at))
    go true e = place_named name shown wanted items shows e
    go false e = tt

-- a kind as a line means it: if it is declared, the words are those that mean it, and then others
pub record SaysOwner (version : Version) (kinds words : List (List ℕ)) (owner : Option ℕ) (rest : List (List ℕ)) : Type 0 where
  pub says : (k : ℕ) → owner ≡ Some k → words ≡ owner_words version kinds k ++ rest

named_said : (kinds : List (List ℕ)) (name : List ℕ) (k : ℕ) → kind_named kinds name ≡ Some k → name ≡ kind_name kinds k
named_said kinds name k is = go (kind_named kinds name) is (found_named (λ (kind : List ℕ). kind) name_of_kind name kinds (λ x. refl))
  where
    go : (o : Option ℕ) → o ≡ Some k → IfOk (or_fault unknown_name o) (λ at. name ≡ kind_name kinds at) → name ≡ kind_name kinds k
    go None is found = let f : ⊥ = cc in absurd f
    go (Some at) is found = let same : at ≡ k = cc in found ∙ ap (kind_name kinds) same

owner_said : (version : Version) (kinds words : List (List ℕ)) → IfOk (owner_at version kinds words) (λ t. SaysOwner version kinds words t.0 t.1)
owner_said First kinds words = record { says = λ k same. refl }
owner_said Second kinds [] = tt
owner_said Second kinds (word ∷ rest) = read
  where
    read : IfOk (owner_at Second kinds (word ∷ rest)) (λ t. SaysOwner Second kinds (word ∷ rest) t.0 t.1)
    read = then_has (name_at (word ∷ rest)) _ (λ t. word ∷ rest ≡ t.0 ∷ t.1) _ (demanded form_fault (is_name word) _ _ λ _. refl) λ name same. record {
      says = λ k is. same ∙ ap (λ w. w ∷ name.1) (named_said kinds name.0 k is);
    }

-- what a field or a root holds as a line says it: if its kind is declared, the words are those that spell it, and then others
pub record SaysHolding (version : Version) (kinds words : List (List ℕ)) (holding : Holding) (rest : List (List ℕ)) : Type 0 where
  pub says : (kind : FieldKind) → kind_of_holding holding ≡ Ok kind → words ≡ kind_words version kinds kind ++ rest

numbers_said : (version : Version) (kinds : List (List ℕ)) (word : List ℕ) (rest : List (List ℕ)) → word ≡ codes "num" → SaysHolding version kinds (word ∷ rest) OfNumbers rest
numbers_said version kinds word rest is = record { says = λ kind same. go kind same }
  where
    go : (kind : FieldKind) → kind_of_holding OfNumbers ≡ Ok kind → word ∷ rest ≡ kind_words version kinds kind ++ rest
    go holdings.Number same = ap (λ w. w ∷ rest) is
    go (holdings.Reference k) same = let f : ⊥ = cc in absurd f

nodes_said : (version : Version) (kinds : List (List ℕ)) (word : List ℕ) (words rest : List (List ℕ)) (owner : Option ℕ) → word ≡ codes "ref" → SaysOwner version kinds words owner rest
    → SaysHolding version kinds (word ∷ words) (OfNodes owner) rest
nodes_said version kinds word words rest None is said = record { says = λ kind same. let f : ⊥ = cc in absurd f }
nodes_said version kinds word words rest (Some k) is said = record { says = λ kind same. go kind same }
  where
    go : (kind : FieldKind) → kind_of_holding (OfNodes (Some k)) ≡ Ok kind → word ∷ words ≡ kind_words version kinds kind ++ rest
    go holdings.Number same = let f : ⊥ = cc in absurd f
    go (holdings.Reference j) same = let at : k ≡ j = cc in rw (is, said.says k refl, at) refl

holding_said : (version : Version) (kinds words : List (List ℕ)) → IfOk (holding_at version kinds words) (λ t. SaysHolding version kinds words t.0 t.1)
holding_said version kinds [] = tt
holding_said version kinds (word ∷ rest) =
    either (bytes_eq word (codes "num")) _ _ (λ t. SaysHolding version kinds (word ∷ rest) t.0 t.1) (λ e. numbers_said version kinds word rest (same_word word (codes "num") e)) λ _.
    either (bytes_eq word (codes "ref")) _ _ (λ t. SaysHolding version kinds (word ∷ rest) t.0 t.1)
    (λ e. then_has (owner_at version kinds rest) _ (λ t. SaysOwner version kinds rest t.0 t.1) _ (owner_said version kinds rest) λ owner said. nodes_said version kinds word rest owner.1 owner.0 (same_word word (codes "ref") e) said) λ _. tt

module _ {B : Type 0} where
  -- the line ends, and then what is read has P
  pub end_then : (words : List (List ℕ)) (f : Unit {0} → Result B ℕ) (P : B → Type 0) → (words ≡ [] → IfOk (f tt) P) → IfOk (end_at words >>= f) P
  end_then [] f P next = next refl
  end_then (word ∷ rest) f P next = tt

  -- a word is read, and then what is read after it has P
  pub word_then : (words : List (List ℕ)) (f : List ℕ × List (List ℕ) → Result B ℕ) (P : B → Type 0)
      → ((word : List ℕ) (rest : List (List ℕ)) → words ≡ word ∷ rest → IfOk (f (word, rest)) P) → IfOk (word_at words >>= f) P
  word_then [] f P next = tt
  word_then (word ∷ rest) f P next = next word rest refl

  -- likewise for a name
  pub name_then : (words : List (List ℕ)) (f : List ℕ × List (List ℕ) → Result B ℕ) (P : B → Type 0)
      → ((name : List ℕ) (rest : List (List ℕ)) → words ≡ name ∷ rest → IfOk (f (name, rest)) P) → IfOk (name_at words >>= f) P
  name_then [] f P next = tt
  name_then (word ∷ rest) f P next = then_has (name_at (word ∷ rest)) f (λ t. word ∷ rest ≡ t.0 ∷ t.1) P read λ t h. next t.0 t.1 h
    where
      read : IfOk (name_at (word ∷ rest)) (λ t. word ∷ rest ≡ t.0 ∷ t.1)
      read = demanded form_fault (is_name word) _ _ λ _. refl

  -- a number
  pub number_then : (words : List (List ℕ)) (f : Option ℕ × List (List ℕ) → Result B ℕ) (P : B → Type 0)
      → ((word : List ℕ) (n : Option ℕ) (rest : List (List ℕ)) → words ≡ word ∷ rest → SaysNumber word n → IfOk (f (n, rest)) P) → IfOk (number_at words >>= f) P
  number_then [] f P next = tt
  number_then (word ∷ rest) f P next = then_has (number_at (word ∷ rest)) f (λ t. (t.1 ≡ rest) × SaysNumber word t.0) P (number_at_said word rest) λ t h. next word t.0 t.1 (ap (λ l. word ∷ l) (sym h.0)) h.1

  -- a number from 1 up
  pub positive_then : (words : List (List ℕ)) (f : Option ℕ × List (List ℕ) → Result B ℕ) (P : B → Type 0)
      → ((word : List ℕ) (n : Option ℕ) (rest : List (List ℕ)) → words ≡ word ∷ rest → SaysNumber word n → IfOk (f (n, rest)) P) → IfOk (positive_at words >>= f) P
  positive_then [] f P next = tt
  positive_then (word ∷ rest) f P next = then_has (positive_at (word ∷ rest)) f (λ t. (t.1 ≡ rest) × SaysNumber word t.0) P read λ t h. next word t.0 t.1 (ap (λ l. word ∷ l) (sym h.0)) h.1
    where
      read : IfOk (positive_at (word ∷ rest)) (λ t. (t.1 ≡ rest) × SaysNumber word t.0)
      read = then_has (number_at (word ∷ rest)) _ (λ t. (t.1 ≡ rest) × SaysNumber word t.0) _ (number_at_said word rest) λ n h. demanded form_fault (is_positive n.0) _ _ λ _. h

  -- a register
  pub register_then : (words : List (List ℕ)) (f : Reg × List (List ℕ) → Result B ℕ) (P : B → Type 0)
      → ((r : Reg) (rest : List (List ℕ)) → words ≡ register_word r ∷ rest → IfOk (f (r, rest)) P) → IfOk (register_at words >>= f) P
  register_then [] f P next = tt
  register_then (word ∷ rest) f P next = then_has (register_at (word ∷ rest)) f (λ t. word ∷ rest ≡ register_word t.0 ∷ t.1) P read λ t h. next t.0 t.1 h
    where
      read : IfOk (register_at (word ∷ rest)) (λ t. word ∷ rest ≡ register_word t.0 ∷ t.1)
      read = then_has (register_in word) _ (λ r. word ≡ register_word r) _ (register_in_said word) λ r same. ap (λ w. w ∷ rest) same

  -- a kind, which may not be declared
  pub owner_then : (version : Version) (kinds words : List (List ℕ)) (f : Option ℕ × List (List ℕ) → Result B ℕ) (P : B → Type 0)
      → ((owner : Option ℕ) (rest : List (List ℕ)) → SaysOwner version kinds words owner rest → IfOk (f (owner, rest)) P) → IfOk (owner_at version kinds words >>= f) P
  owner_then version kinds words f P next = then_has (owner_at version kinds words) f (λ t. SaysOwner version kinds words t.0 t.1) P (owner_said version kinds words) λ t h. next t.0 t.1 h

  -- it is declared
  pub known_then : (owner : Option ℕ) (f : ℕ → Result B ℕ) (P : B → Type 0) → ((k : ℕ) → owner ≡ Some k → IfOk (f k) P) → IfOk (or_fault unknown_name owner >>= f) P
  known_then None f P next = tt
  known_then (Some k) f P next = next k refl

  -- what a field or a root holds
  pub holding_then : (version : Version) (kinds words : List (List ℕ)) (f : Holding × List (List ℕ) → Result B ℕ) (P : B → Type 0)
      → ((holding : Holding) (rest : List (List ℕ)) → SaysHolding version kinds words holding rest → IfOk (f (holding, rest)) P) → IfOk (holding_at version kinds words >>= f) P
  holding_then version kinds words f P next = then_has (holding_at version kinds words) f (λ t. SaysHolding version kinds words t.0 t.1) P (holding_said version kinds words) λ t h. next t.0 t.1 h

  -- its kind is declared
  pub kind_then : (holding : Holding) (f : FieldKind → Result B ℕ) (P : B → Type 0) → ((kind : FieldKind) → kind_of_holding holding ≡ Ok kind → IfOk (f kind) P) → IfOk (kind_of_holding holding >>= f) P
  kind_then OfNumbers f P next = next holdings.Number refl
  kind_then (OfNodes None) f P next = tt
  kind_then (OfNodes (Some k)) f P next = next (holdings.Reference k) refl

  -- a first value
  pub start_then : (kind : FieldKind) (words : List (List ℕ)) (f : StartWord × List (List ℕ) → Result B ℕ) (P : B → Type 0)
      → ((word : List ℕ) (read : StartWord) (rest : List (List ℕ)) → words ≡ word ∷ rest → SaysStart word read → IfOk (f (read, rest)) P) → IfOk (start_at kind words >>= f) P
  start_then kind [] f P next = tt
  start_then kind (word ∷ rest) f P next = then_has (start_at kind (word ∷ rest)) f (λ t. (t.1 ≡ rest) × SaysStart word t.0) P read λ t h. next word t.0 t.1 (ap (λ l. word ∷ l) (sym h.0)) h.1
    where
      read : IfOk (start_at kind (word ∷ rest)) (λ t. (t.1 ≡ rest) × SaysStart word t.0)
      read = then_has (start_in kind word) _ (SaysStart word) _ (start_in_said kind word) λ start said. (refl, said)

  -- the number fits
  pub value_then : (word : List ℕ) (n : Option ℕ) (f : ℕ → Result B ℕ) (P : B → Type 0) → SaysNumber word n → ((v : ℕ) → word ≡ decimal v → IfOk (f v) P) → IfOk (value_of n >>= f) P
  value_then word None f P said next = tt
  value_then word (Some n) f P said next = next n (said.says n refl)

  -- the number is up to its limit
  pub up_to_then : (limit n : ℕ) (f : ℕ → Result B ℕ) (P : B → Type 0) → (nat_le n limit ≡ true → IfOk (f n) P) → IfOk (up_to limit n >>= f) P
  up_to_then limit n f P next = then_has (up_to limit n) f (λ m. (m ≡ n) × (nat_le m limit ≡ true)) P fits λ m h. rw h.0 (next (rw h.0 at h.1))
    where
      fits : IfOk (up_to limit n) (λ m. (m ≡ n) × (nat_le m limit ≡ true))
      fits = either (nat_le n limit) _ _ _ (λ e. (refl, e)) (λ _. tt)

  -- a field's number
  pub field_then : (fields : List FieldDecl) (name : List ℕ) (f : ℕ → Result B ℕ) (P : B → Type 0)
      → ((i : ℕ) → name ≡ field_name fields i → IfOk (f i) P) → IfOk (field_named fields name >>= f) P
  field_then fields name f P next = then_has (field_named fields name) f (λ i. name ≡ field_name fields i) P (found_named (λ (field : FieldDecl). field.name) name_of_field name fields (λ x. refl)) next

  -- a root's number
  pub root_then : (roots : List RootDecl) (name : List ℕ) (f : ℕ → Result B ℕ) (P : B → Type 0)
      → ((i : ℕ) → name ≡ root_name roots i → IfOk (f i) P) → IfOk (root_named roots name >>= f) P
  root_then roots name f P next = then_has (root_named roots name) f (λ i. name ≡ root_name roots i) P (found_named (λ (root : RootDecl). root.name) name_of_root name roots (λ x. refl)) next
