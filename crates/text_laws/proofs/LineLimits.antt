-- What the words of a line say is within the limits.
use Rattle.std.specs.Prelude.{◌≡◌, ℕ, ◌^◌, Bool, true, false, ◌&&◌, ◌==◌, ◌-◌, List, [], ◌∷◌, length, Option, Some, None, Result, IfOk, nat_lt, nat_le, codes, ⊤, if◌then◌else◌}
use Rattle.std.specs.List.{position, position_or_len}
use Rattle.std.specs.Str.{bytes_eq}
use Rattle.std.proofs.Common.{refl, arith}
use Rattle.std.proofs.lemmas.Bool.{and_from}
use Rattle.std.proofs.lemmas.Bool.Decides.{nat_tests}
use Rattle.oa_text.specs.Numbers.{fitting, is_numeral, number_of}
use Rattle.norm_lang.specs.declared.text.Reg.{Reg}
use Rattle.norm_lang.specs.declared.text.FieldDecl.{FieldDecl}
use Rattle.norm_lang.specs.declared.text.RootDecl.{RootDecl}
use Rattle.norm_lang.specs.declared.text.Version.{Version}
use Rattle.norm_lang.specs.declared.text.Version.TheVariants.{First, Second}
use Rattle.norm_lang.specs.Faults.{◌>>=◌, or_fault, form_fault, unknown_name}
use Rattle.norm_lang.specs.LineWords.{end_at, name_at, is_name, number_in, number_at, is_positive, positive_at, value_of, up_to, register_of, register_in, register_at, owner_at}
use Rattle.norm_lang.specs.Instructions.{field_named, root_named, one_register, two_registers, three_registers, retire_at, target_at}
use Rattle.norm_lang.specs.Limits.{is_number, is_register, is_retire, is_target}
use Rattle.text_laws.specs.StandsFor.{KindsOf}
use Rattle.text_laws.proofs.Readings.{then_has, anyhow, demanded, either}

-- a number as it is spelled is small, or none
abbrev pub Fits : Option ℕ → Type 0
Fits None = ⊤
Fits (Some n) = is_number n ≡ true

-- a number as it is spelled is at least 1, or none
abbrev pub FitsAbove : Option ℕ → Type 0
FitsAbove None = ⊤
FitsAbove (Some n) = nat_le 1 n && is_number n ≡ true

fitting_fits : (n : ℕ) → Fits (fitting n)
fitting_fits n = go (nat_lt n (2 ^ 64)) refl
  where
    go : (b : Bool) → nat_lt n (2 ^ 64) ≡ b → Fits (fitting n)
    go true e = rw (e, e)
    go false e = rw e tt

pub number_in_fits : (word : List ℕ) → IfOk (number_in word) Fits
number_in_fits word = either (is_numeral word) _ _ Fits (λ _. fitting_fits (number_of word)) (λ _. tt)

number_fits : (words : List (List ℕ)) → IfOk (number_at words) (λ n. Fits n.0)
number_fits [] = tt
number_fits (word ∷ rest) = then_has (number_in word) _ Fits _ (number_in_fits word) λ n h. h

above : (n : Option ℕ) → Fits n → is_positive n ≡ true → FitsAbove n
above None fits positive = tt
above (Some n) fits positive = and_from _ _ positive fits

register_of_fits : (letter number : ℕ) → nat_lt number 8 ≡ true → IfOk (register_of letter number) (λ r. is_register r ≡ true)
register_of_fits letter number h = either (letter == 110) _ _ _ (λ _. h) λ _. either (letter == 114) _ _ _ (λ _. h) (λ _. tt)

register_in_fits : (word : List ℕ) → IfOk (register_in word) (λ r. is_register r ≡ true)
register_in_fits [] = tt
register_in_fits (letter ∷ []) = tt
register_in_fits (letter ∷ digit ∷ []) = either (nat_le 48 digit && nat_le digit 55) _ _ _ (λ e. register_of_fits letter (digit - 48) (digits e)) (λ _. tt)
  where
    digits : nat_le 48 digit && nat_le digit 55 ≡ true → nat_lt (digit - 48) 8 ≡ true
    digits e = grind (arith, nat_tests)
register_in_fits (letter ∷ digit ∷ more ∷ rest) = tt

register_fits : (words : List (List ℕ)) → IfOk (register_at words) (λ r. is_register r.0 ≡ true)
register_fits [] = tt
register_fits (word ∷ rest) = then_has (register_in word) _ (λ r. is_register r ≡ true) _ (register_in_fits word) λ r h. h

-- a number is read, and then what is read after it has P
pub number_then : {B : Type 0} (words : List (List ℕ)) (f : Option ℕ × List (List ℕ) → Result B ℕ) (P : B → Type 0)
    → ((n : Option ℕ) (rest : List (List ℕ)) → Fits n → IfOk (f (n, rest)) P) → IfOk (number_at words >>= f) P
number_then words f P next = then_has (number_at words) f (λ n. Fits n.0) P (number_fits words) λ n h. next n.0 n.1 h

-- a number from 1 up is read, and then what is read after it has P
pub positive_then : {B : Type 0} (words : List (List ℕ)) (f : Option ℕ × List (List ℕ) → Result B ℕ) (P : B → Type 0)
    → ((n : Option ℕ) (rest : List (List ℕ)) → FitsAbove n → IfOk (f (n, rest)) P) → IfOk (positive_at words >>= f) P
positive_then words f P next = then_has (positive_at words) f (λ n. FitsAbove n.0) P fits λ n h. next n.0 n.1 h
  where
    fits : IfOk (positive_at words) (λ n. FitsAbove n.0)
    fits = number_then words _ _ λ n rest h. demanded form_fault (is_positive n) _ _ λ positive. above n h positive

-- a register is read, and then what is read after it has P
pub register_then : {B : Type 0} (words : List (List ℕ)) (f : Reg × List (List ℕ) → Result B ℕ) (P : B → Type 0)
    → ((r : Reg) (rest : List (List ℕ)) → is_register r ≡ true → IfOk (f (r, rest)) P) → IfOk (register_at words >>= f) P
register_then words f P next = then_has (register_at words) f (λ r. is_register r.0 ≡ true) P (register_fits words) λ r h. next r.0 r.1 h

-- a name is read, and then what is read after it has P
pub name_then : {B : Type 0} (words : List (List ℕ)) (f : List ℕ × List (List ℕ) → Result B ℕ) (P : B → Type 0)
    → ((name : List ℕ) (rest : List (List ℕ)) → is_name name ≡ true → IfOk (f (name, rest)) P) → IfOk (name_at words >>= f) P
name_then [] f P next = tt
name_then (word ∷ rest) f P next = then_has (name_at (word ∷ rest)) f (λ t. is_name t.0 ≡ true) P fits λ t h. next t.0 t.1 h
  where
    fits : IfOk (name_at (word ∷ rest)) (λ t. is_name t.0 ≡ true)
    fits = demanded form_fault (is_name word) _ _ λ h. h

-- the last register is read, and then what is read after it has P
pub one_then : {B : Type 0} (words : List (List ℕ)) (f : Reg → Result B ℕ) (P : B → Type 0)
    → ((r : Reg) → is_register r ≡ true → IfOk (f r) P) → IfOk (one_register words >>= f) P
one_then words f P next = then_has (one_register words) f (λ r. is_register r ≡ true) P fits next
  where
    fits : IfOk (one_register words) (λ r. is_register r ≡ true)
    fits = register_then words _ _ λ r rest h. anyhow (end_at rest) _ _ λ done. h

pub two_then : {B : Type 0} (words : List (List ℕ)) (f : Reg × Reg → Result B ℕ) (P : B → Type 0)
    → ((a b : Reg) → is_register a ≡ true → is_register b ≡ true → IfOk (f (a, b)) P) → IfOk (two_registers words >>= f) P
two_then words f P next = then_has (two_registers words) f (λ r. (is_register r.0 ≡ true) × (is_register r.1 ≡ true)) P fits λ r h. next r.0 r.1 h.0 h.1
  where
    fits : IfOk (two_registers words) (λ r. (is_register r.0 ≡ true) × (is_register r.1 ≡ true))
    fits = register_then words _ _ λ a rest ha. one_then rest _ _ λ b hb. (ha, hb)

pub three_then : {B : Type 0} (words : List (List ℕ)) (f : Reg × (Reg × Reg) → Result B ℕ) (P : B → Type 0)
    → ((a b c : Reg) → is_register a ≡ true → is_register b ≡ true → is_register c ≡ true → IfOk (f (a, (b, c))) P)
    → IfOk (three_registers words >>= f) P
three_then words f P next = then_has (three_registers words) f Are P fits λ r h. next r.0 r.1.0 r.1.1 h.0 h.1 h.2
  where
    Are : Reg × (Reg × Reg) → Type 0
    Are r = (is_register r.0 ≡ true) × (is_register r.1.0 ≡ true) × (is_register r.1.1 ≡ true)

    fits : IfOk (three_registers words) Are
    fits = register_then words _ _ λ a rest ha. two_then rest _ _ λ b c hb hc. (ha, hb, hc)

-- the register to retire is read, if there is one, and then what is read after it has P
pub retire_then : {B : Type 0} (words : List (List ℕ)) (f : Option Reg → Result B ℕ) (P : B → Type 0)
    → ((r : Option Reg) → is_retire r ≡ true → IfOk (f r) P) → IfOk (retire_at words >>= f) P
retire_then words f P next = then_has (retire_at words) f (λ r. is_retire r ≡ true) P (fits words) next
  where
    fits : (words : List (List ℕ)) → IfOk (retire_at words) (λ r. is_retire r ≡ true)
    fits [] = refl
    fits (word ∷ rest) = demanded form_fault (bytes_eq word (codes "retire")) _ _ λ _. one_then rest _ _ λ r h. h

-- the number is at most 2^64 - 1, and then what is read has P
pub value_then : {B : Type 0} (n : Option ℕ) (f : ℕ → Result B ℕ) (P : B → Type 0)
    → Fits n → ((v : ℕ) → is_number v ≡ true → IfOk (f v) P) → IfOk (value_of n >>= f) P
value_then None f P fits next = tt
value_then (Some n) f P fits next = next n fits

pub value_above_then : {B : Type 0} (n : Option ℕ) (f : ℕ → Result B ℕ) (P : B → Type 0)
    → FitsAbove n → ((v : ℕ) → nat_le 1 v && is_number v ≡ true → IfOk (f v) P) → IfOk (value_of n >>= f) P
value_above_then None f P fits next = tt
value_above_then (Some n) f P fits next = next n fits

-- the number is up to its limit, and then what is read has P
pub up_to_then : {B : Type 0} (limit n : ℕ) (f : ℕ → Result B ℕ) (P : B → Type 0)
    → (nat_le n limit ≡ true → IfOk (f n) P) → IfOk (up_to limit n >>= f) P
up_to_then limit n f P next = then_has (up_to limit n) f (λ m. (m ≡ n) × (nat_le m limit ≡ true)) P fits λ m h. rw h.0 (next (rw h.0 at h.1))
  where
    fits : IfOk (up_to limit n) (λ m. (m ≡ n) × (nat_le m limit ≡ true))
    fits = either (nat_le n limit) _ _ _ (λ e. (refl, e)) (λ _. tt)

-- the last number is that of an instruction, and then what is read has P
pub target_then : {B : Type 0} (words : List (List ℕ)) (f : ℕ → Result B ℕ) (P : B → Type 0)
    → ((l : ℕ) → is_target l ≡ true → IfOk (f l) P) → IfOk (target_at words >>= f) P
target_then words f P next = then_has (target_at words) f (λ l. is_target l ≡ true) P fits next
  where
    fits : IfOk (target_at words) (λ l. is_target l ≡ true)
    fits = number_then words _ _ λ n rest h. anyhow (end_at rest) _ _ λ done. value_then n _ _ h λ v _. either (nat_le v 65535) _ _ _ (λ e. e) (λ _. tt)

place_below : {A : Type 0} (test : A → Bool) (items : List A) → IfOk (or_fault unknown_name (position test items)) (λ i. nat_lt i (length items) ≡ true)
place_below test items = go (nat_lt (position_or_len test items) (length items)) refl
  where
    go : (b : Bool) → nat_lt (position_or_len test items) (length items) ≡ b
        → IfOk (or_fault unknown_name (if b then Some (position_or_len test items) else None)) (λ i. nat_lt i (length items) ≡ true)
    go true e = e
    go false e = tt

-- a field is found, and then what is read has P
pub field_then : {B : Type 0} (fields : List FieldDecl) (name : List ℕ) (f : ℕ → Result B ℕ) (P : B → Type 0)
    → ((i : ℕ) → nat_lt i (length fields) ≡ true → IfOk (f i) P) → IfOk (field_named fields name >>= f) P
field_then fields name f P next = then_has (field_named fields name) f (λ i. nat_lt i (length fields) ≡ true) P (place_below (λ field. bytes_eq field.name name) fields) next

-- a root is found, and then what is read has P
pub root_then : {B : Type 0} (roots : List RootDecl) (name : List ℕ) (f : ℕ → Result B ℕ) (P : B → Type 0)
    → ((i : ℕ) → nat_lt i (length roots) ≡ true → IfOk (f i) P) → IfOk (root_named roots name >>= f) P
root_then roots name f P next = then_has (root_named roots name) f (λ i. nat_lt i (length roots) ≡ true) P (place_below (λ root. bytes_eq root.name name) roots) next

-- the kind that a line means is one of so many, or isn't declared
abbrev pub IsOwner : ℕ → Option ℕ → Type 0
IsOwner kinds None = ⊤
IsOwner kinds (Some k) = nat_lt k kinds ≡ true

owner_place : {A : Type 0} (test : A → Bool) (items : List A) → IsOwner (length items) (position test items)
owner_place test items = go (nat_lt (position_or_len test items) (length items)) refl
  where
    go : (b : Bool) → nat_lt (position_or_len test items) (length items) ≡ b → IsOwner (length items) (if b then Some (position_or_len test items) else None)
    go true e = e
    go false e = tt

owner_known : (version : Version) (kinds words : List (List ℕ)) → KindsOf version kinds → IfOk (owner_at version kinds words) (λ t. IsOwner (length kinds) t.0)
owner_known First kinds words are = rw are refl
owner_known Second kinds words are = name_then words _ _ λ name rest named. owner_place (λ kind. bytes_eq kind name) kinds

-- a kind is read, or meant without a word, and then what is read after it has P
pub owner_then : {B : Type 0} (version : Version) (kinds words : List (List ℕ)) (f : Option ℕ × List (List ℕ) → Result B ℕ) (P : B → Type 0) → KindsOf version kinds
    → ((owner : Option ℕ) (rest : List (List ℕ)) → IsOwner (length kinds) owner → IfOk (f (owner, rest)) P) → IfOk (owner_at version kinds words >>= f) P
owner_then version kinds words f P are next = then_has (owner_at version kinds words) f (λ t. IsOwner (length kinds) t.0) P (owner_known version kinds words are) λ t h. next t.0 t.1 h

-- the kind is declared, and then what is read has P
pub declared_then : {B : Type 0} (kinds : ℕ) (owner : Option ℕ) (f : ℕ → Result B ℕ) (P : B → Type 0) → IsOwner kinds owner
    → ((k : ℕ) → owner ≡ Some k → nat_lt k kinds ≡ true → IfOk (f k) P) → IfOk (or_fault unknown_name owner >>= f) P
declared_then kinds None f P is next = tt
declared_then kinds (Some k) f P is next = next k refl is
