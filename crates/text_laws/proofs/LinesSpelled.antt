-- Each spelled line is a line of few short words.
use Rattle.std.specs.Prelude.{◌≡◌, ℕ, zero, suc, ◌+◌, ◌^◌, ◌<◌, ◌≤◌, ◌&&◌, true, false, List, [], ◌∷◌, ◌++◌, map, length, Option, Some, None, codes, decimal, nat_le, nat_lt}
use Rattle.std.specs.List.{list_all, AllByRecursion}
use Rattle.std.proofs.Common.{refl, ap, arith, length-append}
use Rattle.std.proofs.lemmas.Bool.{and_from, and_parts, ltb-true, leb-true}
use Rattle.std.proofs.lemmas.Bool.Decides.{nat_tests}
use Rattle.std.proofs.lemmas.Fmt.{decimal_digit, length-decimal-le}
use Rattle.norm_lang.specs.declared.text.Reg.{Reg}
use Rattle.norm_lang.specs.declared.text.Reg.TheVariants.{Num, Ref}
use Rattle.norm_lang.specs.declared.text.FieldKind.{FieldKind}
use Rattle.norm_lang.specs.declared.text.FieldKind.TheVariants as holdings
use Rattle.norm_lang.specs.declared.text.Start.{Start}
use Rattle.norm_lang.specs.declared.text.Start.TheVariants as starts
use Rattle.norm_lang.specs.declared.text.FieldDecl.{FieldDecl}
use Rattle.norm_lang.specs.declared.text.RootDecl.{RootDecl}
use Rattle.norm_lang.specs.declared.text.NodeDecl.{NodeDecl}
use Rattle.norm_lang.specs.declared.text.Place.{Place}
use Rattle.norm_lang.specs.declared.text.Place.TheVariants as places
use Rattle.norm_lang.specs.declared.text.CasEntry.{CasEntry}
use Rattle.norm_lang.specs.declared.text.Instr.{Instr}
use Rattle.norm_lang.specs.declared.text.Instr.TheVariants as instr
use Rattle.norm_lang.specs.declared.text.Op.{Op}
use Rattle.norm_lang.specs.declared.text.Version.{Version}
use Rattle.norm_lang.specs.declared.text.Version.TheVariants.{First, Second}
use Rattle.norm_lang.specs.Spelling.{register_word, named_kind, kind_name, owner_words, kind_words, node_word, start_word, retire_words, field_name, root_name, spelled_version, spelled_field, nodes_of, spelled_count, spelled_node, spelled_root, spelled_cas, spelled_entry, spelled_instr, spelled_op}
use Rattle.norm_lang.specs.LineWords.{is_lower, is_name_byte, is_name}
use Rattle.norm_lang.specs.Limits.{is_number, is_register, is_target, is_retire, is_entry, is_instr, is_kind, is_start, are_starts}
use Rattle.norm_lang.proofs.SpelledLines.{is_visible, IsWord, IsLine, each}
use Rattle.text_laws.proofs.SpelledWords.{decimal_word}
use Rattle.text_laws.proofs.WordsRead.{AreKinds, AreFields, AreRoots, node_within, kind_spelled, field_spelled, root_spelled}

-- a word that computes
keyword : (word : List ℕ) → nat_lt 0 (length word) && (nat_le (length word) 20 && list_all is_visible word) ≡ true → IsWord word
keyword word is =
    let p = and_parts (nat_lt 0 (length word)) (nat_le (length word) 20 && list_all is_visible word) is in
    let q = and_parts (nat_le (length word) 20) (list_all is_visible word) p.1 in
    record { some = ltb-true 0 (length word) p.0; short = leb-true (length word) 20 q.0; visible = q.1 }

number_word : (n : ℕ) → is_number n ≡ true → IsWord (decimal n)
number_word n is = decimal_word n (ltb-true n (2 ^ 64) is)

small_word : (most n : ℕ) → most < 2 ^ 64 → nat_le n most ≡ true → IsWord (decimal n)
small_word most n fits le = let k : n ≤ most = leb-true n most le in decimal_word n (omega arith)

target_word : (l : ℕ) → is_target l ≡ true → IsWord (decimal l)
target_word l is = small_word 65535 l (omega arith) is

lower_visible : (b : ℕ) → is_lower b ≡ true → is_visible b ≡ true
lower_visible b lower = grind (arith, nat_tests)

name_byte_visible : (b : ℕ) → is_name_byte b ≡ true → is_visible b ≡ true
name_byte_visible b is = grind (arith, nat_tests)

name_word : (name : List ℕ) → is_name name ≡ true → IsWord name
name_word [] is = let e : false ≡ true = is in absurd (let f : ⊥ = cc in f)
name_word (b ∷ bytes) is =
    let p = and_parts (is_lower b) (list_all is_name_byte bytes && nat_le (length bytes) 15) is in
    let q = and_parts (list_all is_name_byte bytes) (nat_le (length bytes) 15) p.1 in
    record {
      some = omega arith;
      short = let le : length bytes ≤ 15 = leb-true (length bytes) 15 q.1 in omega arith;
      visible = and_from (is_visible b) (list_all is_visible bytes) (lower_visible b p.0) (each is_name_byte is_visible bytes name_byte_visible q.0);
    }

letter_word : (letter k : ℕ) → is_visible letter ≡ true → nat_lt k 8 ≡ true → IsWord (letter ∷ decimal k)
letter_word letter k visible small =
    let lt : k < 8 = ltb-true k 8 small in
    let lt10 : k < 10 = omega arith in
    let digit : is_visible (48 + k) ≡ true = grind (arith, nat_tests) in
    rw (decimal_digit k lt10) (record { some = omega arith; short = omega arith; visible = and_from (is_visible letter) (is_visible (48 + k) && true) visible (and_from (is_visible (48 + k)) true digit refl) })

register_is : (r : Reg) → is_register r ≡ true → IsWord (register_word r)
register_is (Num k) is = letter_word 110 k refl is
register_is (Ref k) is = letter_word 114 k refl is

-- words, and others after them
both : (xs ys : List (List ℕ)) → AllByRecursion IsWord xs → AllByRecursion IsWord ys → AllByRecursion IsWord (xs ++ ys)
both [] ys first second = second
both (x ∷ xs) ys first second = (first.0, both xs ys first.1 second)

-- a kind's name, or nothing
named_is : (version : Version) (name : List ℕ) → is_name name ≡ true → AllByRecursion IsWord (named_kind version name)
named_is First name is = tt
named_is Second name is = (name_word name is, tt)

named_few : (version : Version) (name : List ℕ) → length (named_kind version name) ≤ 1
named_few First name = omega arith
named_few Second name = omega arith

owner_is : (version : Version) (kinds : List (List ℕ)) (k : ℕ) → AreKinds version kinds → nat_lt k (length kinds) ≡ true → AllByRecursion IsWord (owner_words version kinds k)
owner_is version kinds k are within = named_is version (kind_name kinds k) (kind_spelled version kinds k are within)

kind_is : (version : Version) (kinds : List (List ℕ)) (kind : FieldKind) → AreKinds version kinds → is_kind (length kinds) kind ≡ true → AllByRecursion IsWord (kind_words version kinds kind)
kind_is version kinds holdings.Number are is = (keyword (codes "num") refl, tt)
kind_is version kinds (holdings.Reference k) are is = (keyword (codes "ref") refl, owner_is version kinds k are is)

kind_few : (version : Version) (kinds : List (List ℕ)) (kind : FieldKind) → length (kind_words version kinds kind) ≤ 2
kind_few version kinds holdings.Number = omega arith
kind_few version kinds (holdings.Reference k) = omega (arith, named_few version (kind_name kinds k))

node_is : (j : ℕ) → j ≤ 256 → IsWord (node_word j)
node_is zero few = keyword (codes "null") refl
node_is (suc j) few =
    let lt : suc j < 2 ^ 64 = omega arith in
    let word : IsWord (decimal (suc j)) = decimal_word (suc j) lt in
    record {
      some = omega arith;
      short = omega (arith, length-decimal-le 3 (suc j) (omega arith) (omega arith) (omega arith));
      visible = and_from (is_visible 64) (list_all is_visible (decimal (suc j))) refl word.visible;
    }

-- a first value, given initial nodes of these kinds
start_is : (owners : List ℕ) (kind : FieldKind) (start : Start) → length owners ≤ 256 → is_start owners kind start ≡ true → IsWord (start_word start)
start_is owners holdings.Number (starts.Value n) few is = number_word n is
start_is owners (holdings.Reference k) (starts.Value n) few is = let e : false ≡ true = is in absurd (let f : ⊥ = cc in f)
start_is owners holdings.Number (starts.Node j) few is = let e : false ≡ true = is in absurd (let f : ⊥ = cc in f)
start_is owners (holdings.Reference k) (starts.Node zero) few is = node_is zero (omega arith)
start_is owners (holdings.Reference k) (starts.Node (suc j)) few is = let within : j < length owners = node_within owners j k is in node_is (suc j) (omega arith)

starts_are : (owners : List ℕ) (fields : List FieldDecl) (values : List Start) → length owners ≤ 256 → are_starts owners fields values ≡ true → AllByRecursion IsWord (map start_word values)
starts_are owners [] [] few are = tt
starts_are owners [] (start ∷ values) few are = let e : false ≡ true = are in absurd (let f : ⊥ = cc in f)
starts_are owners (field ∷ fields) [] few are = tt
starts_are owners (field ∷ fields) (start ∷ values) few are =
    let p = and_parts (is_start owners field.kind start) (are_starts owners fields values) are in
    (start_is owners field.kind start few p.0, starts_are owners fields values few p.1)

starts_few : (owners : List ℕ) (fields : List FieldDecl) (values : List Start) → are_starts owners fields values ≡ true → length (map start_word values) ≡ length fields
starts_few owners [] [] are = refl
starts_few owners [] (start ∷ values) are = let e : false ≡ true = are in absurd (let f : ⊥ = cc in f)
starts_few owners (field ∷ fields) [] are = let e : false ≡ true = are in absurd (let f : ⊥ = cc in f)
starts_few owners (field ∷ fields) (start ∷ values) are =
    let p = and_parts (is_start owners field.kind start) (are_starts owners fields values) are in
    ap suc (starts_few owners fields values p.1)

pub version_is : (version : Version) → IsLine (spelled_version version)
version_is First = record { few = omega arith; word = (keyword (codes "oa") refl, (keyword (codes "1") refl, tt)) }
version_is Second = record { few = omega arith; word = (keyword (codes "oa") refl, (keyword (codes "2") refl, tt)) }

pub kind_line_is : (name : List ℕ) → is_name name ≡ true → IsLine (codes "kind" ∷ name ∷ [])
kind_line_is name is = record { few = omega arith; word = (keyword (codes "kind") refl, (name_word name is, tt)) }

pub gen_is : IsLine (codes "gen" ∷ [])
gen_is = record { few = omega arith; word = (keyword (codes "gen") refl, tt) }

pub wrap_is : IsLine (codes "wrap" ∷ [])
wrap_is = record { few = omega arith; word = (keyword (codes "wrap") refl, tt) }

pub field_is : (version : Version) (kinds : List (List ℕ)) (field : FieldDecl) → AreKinds version kinds → is_name field.name ≡ true → nat_lt field.owner (length kinds) ≡ true
    → is_kind (length kinds) field.kind ≡ true → IsLine (spelled_field version kinds field)
field_is version kinds field ks name owner kind =
    let owner_few : length (owner_words version kinds field.owner) ≤ 1 = named_few version (kind_name kinds field.owner) in
    let all = length-append (owner_words version kinds field.owner) (field.name ∷ kind_words version kinds field.kind) in
    record {
      few = omega (arith, all, owner_few, kind_few version kinds field.kind);
      word = (
        keyword (codes "field") refl,
        both (owner_words version kinds field.owner) (field.name ∷ kind_words version kinds field.kind) (owner_is version kinds field.owner ks owner)
            (name_word field.name name, kind_is version kinds field.kind ks kind),
      );
    }

pub count_is : (version : Version) (k : ℕ) (name : List ℕ) (nodes : List NodeDecl) → is_name name ≡ true → length (nodes_of k nodes) ≤ 256 → IsLine (spelled_count version k name nodes)
count_is version k name nodes is few =
    let count = decimal (length (nodes_of k nodes)) in
    let all = length-append (named_kind version name) (count ∷ []) in
    record {
      few = omega (arith, all, named_few version name);
      word = (keyword (codes "nodes") refl, both (named_kind version name) (count ∷ []) (named_is version name is) (decimal_word (length (nodes_of k nodes)) (omega (arith, few)), tt));
    }

pub node_line_is : (owners : List ℕ) (fields : List FieldDecl) (node : NodeDecl) → length fields ≤ 4 → length owners ≤ 256 → are_starts owners fields node.values ≡ true → IsLine (spelled_node node)
node_line_is owners fields node short few are = record {
  few = omega (arith, starts_few owners fields node.values are);
  word = (keyword (codes "node") refl, starts_are owners fields node.values few are);
}

pub root_is : (version : Version) (kinds : List (List ℕ)) (owners : List ℕ) (root : RootDecl) → AreKinds version kinds → length owners ≤ 256 → is_name root.name ≡ true
    → is_kind (length kinds) root.kind ≡ true → is_start owners root.kind root.start ≡ true → IsLine (spelled_root version kinds root)
root_is version kinds owners root ks few name kind start =
    let all = length-append (kind_words version kinds root.kind) (start_word root.start ∷ []) in
    record {
      few = omega (arith, all, kind_few version kinds root.kind);
      word = (
        keyword (codes "root") refl,
        (
          name_word root.name name,
          both (kind_words version kinds root.kind) (start_word root.start ∷ []) (kind_is version kinds root.kind ks kind) (start_is owners root.kind root.start few start, tt),
        ),
      );
    }

pub op_is : (op : Op) → is_name op.name ≡ true → nat_le op.args 4 ≡ true → IsLine (spelled_op op)
op_is op name args = record { few = omega arith; word = (keyword (codes "op") refl, (name_word op.name name, (small_word 4 op.args (omega arith) args, tt))) }

-- the words of an exchange's registers and of what it retires
retired : (expected replacement : Reg) (retire : Option Reg) → is_register expected && (is_register replacement && is_retire retire) ≡ true
    → AllByRecursion IsWord (register_word expected ∷ register_word replacement ∷ retire_words retire)
retired expected replacement None is =
    let p = and_parts (is_register expected) (is_register replacement && true) is in
    let q = and_parts (is_register replacement) true p.1 in
    (register_is expected p.0, (register_is replacement q.0, tt))
retired expected replacement (Some r) is =
    let p = and_parts (is_register expected) (is_register replacement && is_register r) is in
    let q = and_parts (is_register replacement) (is_register r) p.1 in
    (register_is expected p.0, (register_is replacement q.0, (keyword (codes "retire") refl, (register_is r q.1, tt))))

retire_few : (retire : Option Reg) → length (retire_words retire) ≤ 2
retire_few None = omega arith
retire_few (Some r) = omega arith

each_entry : (fields : List FieldDecl) (roots : List RootDecl) (place : Place) (expected replacement : Reg) (retire : Option Reg) → AreFields fields → AreRoots roots
    → is_entry (length fields) (length roots) (record { place = place; expected = expected; replacement = replacement; retire = retire }) ≡ true
    → IsLine (spelled_entry fields roots (record { place = place; expected = expected; replacement = replacement; retire = retire }))
each_entry fields roots (places.Root x) expected replacement retire fs rs is =
    let p = and_parts (nat_lt x (length roots)) (is_register expected && (is_register replacement && is_retire retire)) is in
    record { few = omega (arith, retire_few retire); word = (keyword (codes "withroot") refl, (name_word (root_name roots x) (root_spelled roots x rs p.0), retired expected replacement retire p.1)) }
each_entry fields roots (places.Field a f) expected replacement retire fs rs is =
    let p = and_parts (is_register a && nat_lt f (length fields)) (is_register expected && (is_register replacement && is_retire retire)) is in
    let o = and_parts (is_register a) (nat_lt f (length fields)) p.0 in
    record { few = omega (arith, retire_few retire); word = (keyword (codes "with") refl, (register_is a o.0, (name_word (field_name fields f) (field_spelled fields f fs o.1), retired expected replacement retire p.1))) }

pub entry_is : (fields : List FieldDecl) (roots : List RootDecl) (entry : CasEntry) → AreFields fields → AreRoots roots → is_entry (length fields) (length roots) entry ≡ true
    → IsLine (spelled_entry fields roots entry)
entry_is fields roots entry fs rs is = each_entry fields roots entry.place entry.expected entry.replacement entry.retire fs rs is

cas_is : (fields : List FieldDecl) (roots : List RootDecl) (place : Place) (expected replacement : Reg) (retire : Option Reg) (l : ℕ) → AreFields fields → AreRoots roots
    → is_entry (length fields) (length roots) (record { place = place; expected = expected; replacement = replacement; retire = retire }) ≡ true → is_target l ≡ true
    → IsLine (spelled_cas fields roots (record { place = place; expected = expected; replacement = replacement; retire = retire }) l)
cas_is fields roots (places.Root x) expected replacement retire l fs rs is to =
    let p = and_parts (nat_lt x (length roots)) (is_register expected && (is_register replacement && is_retire retire)) is in
    let w = retired expected replacement retire p.1 in
    record { few = omega (arith, retire_few retire); word = (keyword (codes "casroot") refl, (name_word (root_name roots x) (root_spelled roots x rs p.0), (w.0, (w.1.0, (target_word l to, w.1.1))))) }
cas_is fields roots (places.Field a f) expected replacement retire l fs rs is to =
    let p = and_parts (is_register a && nat_lt f (length fields)) (is_register expected && (is_register replacement && is_retire retire)) is in
    let o = and_parts (is_register a) (nat_lt f (length fields)) p.0 in
    let w = retired expected replacement retire p.1 in
    record { few = omega (arith, retire_few retire); word = (keyword (codes "cas") refl, (register_is a o.0, (name_word (field_name fields f) (field_spelled fields f fs o.1), (w.0, (w.1.0, (target_word l to, w.1.1)))))) }

-- the line of an instruction
pub instr_is : (version : Version) (kinds : List (List ℕ)) (fields : List FieldDecl) (roots : List RootDecl) (i : Instr) → AreKinds version kinds → AreFields fields → AreRoots roots → is_instr (length kinds) (length fields) (length roots) i ≡ true
    → IsLine (spelled_instr version kinds fields roots i)
instr_is version kinds fields roots (instr.Set d n) ks fs rs is =
    let p = and_parts (is_register d) (is_number n) is in
    record { few = omega arith; word = (keyword (codes "set") refl, (register_is d p.0, (number_word n p.1, tt))) }
instr_is version kinds fields roots (instr.Mov d a) ks fs rs is =
    let p = and_parts (is_register d) (is_register a) is in
    record { few = omega arith; word = (keyword (codes "mov") refl, (register_is d p.0, (register_is a p.1, tt))) }
instr_is version kinds fields roots (instr.Add d a b) ks fs rs is =
    let p = and_parts (is_register d) (is_register a && is_register b) is in
    let q = and_parts (is_register a) (is_register b) p.1 in
    record { few = omega arith; word = (keyword (codes "add") refl, (register_is d p.0, (register_is a q.0, (register_is b q.1, tt)))) }
instr_is version kinds fields roots (instr.Sub d a b) ks fs rs is =
    let p = and_parts (is_register d) (is_register a && is_register b) is in
    let q = and_parts (is_register a) (is_register b) p.1 in
    record { few = omega arith; word = (keyword (codes "sub") refl, (register_is d p.0, (register_is a q.0, (register_is b q.1, tt)))) }
instr_is version kinds fields roots (instr.Rem d a n) ks fs rs is =
    let p = and_parts (is_register d) (is_register a && (nat_le 1 n && is_number n)) is in
    let q = and_parts (is_register a) (nat_le 1 n && is_number n) p.1 in
    let t = and_parts (nat_le 1 n) (is_number n) q.1 in
    record { few = omega arith; word = (keyword (codes "rem") refl, (register_is d p.0, (register_is a q.0, (number_word n t.1, tt)))) }
instr_is version kinds fields roots (instr.Mark d a) ks fs rs is =
    let p = and_parts (is_register d) (is_register a) is in
    record { few = omega arith; word = (keyword (codes "mark") refl, (register_is d p.0, (register_is a p.1, tt))) }
instr_is version kinds fields roots (instr.Unmark d a) ks fs rs is =
    let p = and_parts (is_register d) (is_register a) is in
    record { few = omega arith; word = (keyword (codes "unmark") refl, (register_is d p.0, (register_is a p.1, tt))) }
instr_is version kinds fields roots (instr.Null d) ks fs rs is =
    record { few = omega arith; word = (keyword (codes "null") refl, (register_is d is, tt)) }
instr_is version kinds fields roots (instr.LoadRoot d x) ks fs rs is =
    let p = and_parts (is_register d) (nat_lt x (length roots)) is in
    record { few = omega arith; word = (keyword (codes "root") refl, (register_is d p.0, (name_word (root_name roots x) (root_spelled roots x rs p.1), tt))) }
instr_is version kinds fields roots (instr.LoadPick d x n a) ks fs rs is =
    let p = and_parts (is_register d) (nat_lt x (length roots) && ((nat_le 1 n && nat_le n 256) && is_register a)) is in
    let q = and_parts (nat_lt x (length roots)) ((nat_le 1 n && nat_le n 256) && is_register a) p.1 in
    let t = and_parts (nat_le 1 n && nat_le n 256) (is_register a) q.1 in
    let u = and_parts (nat_le 1 n) (nat_le n 256) t.0 in
    record { few = omega arith; word = (keyword (codes "pick") refl, (register_is d p.0, (name_word (root_name roots x) (root_spelled roots x rs q.0), (small_word 256 n (omega arith) u.1, (register_is a t.1, tt))))) }
instr_is version kinds fields roots (instr.LoadField d a f) ks fs rs is =
    let p = and_parts (is_register d) (is_register a && nat_lt f (length fields)) is in
    let q = and_parts (is_register a) (nat_lt f (length fields)) p.1 in
    record { few = omega arith; word = (keyword (codes "load") refl, (register_is d p.0, (register_is a q.0, (name_word (field_name fields f) (field_spelled fields f fs q.1), tt)))) }
instr_is version kinds fields roots (instr.New d kind) ks fs rs is =
    let p = and_parts (is_register d) (nat_lt kind (length kinds)) is in
    record { few = omega (arith, named_few version (kind_name kinds kind)); word = (keyword (codes "new") refl, (register_is d p.0, owner_is version kinds kind ks p.1)) }
instr_is version kinds fields roots (instr.Put a f b) ks fs rs is =
    let p = and_parts (is_register a) (nat_lt f (length fields) && is_register b) is in
    let q = and_parts (nat_lt f (length fields)) (is_register b) p.1 in
    record { few = omega arith; word = (keyword (codes "put") refl, (register_is a p.0, (name_word (field_name fields f) (field_spelled fields f fs q.0), (register_is b q.1, tt)))) }
instr_is version kinds fields roots (instr.Cas entry l) ks fs rs is =
    let p = and_parts (is_entry (length fields) (length roots) entry) (is_target l) is in
    cas_is fields roots entry.place entry.expected entry.replacement entry.retire l fs rs p.0 p.1
instr_is version kinds fields roots (instr.Jump l) ks fs rs is =
    record { few = omega arith; word = (keyword (codes "jump") refl, (target_word l is, tt)) }
instr_is version kinds fields roots (instr.IfEq a b l) ks fs rs is =
    let p = and_parts (is_register a) (is_register b && is_target l) is in
    let q = and_parts (is_register b) (is_target l) p.1 in
    record { few = omega arith; word = (keyword (codes "ifeq") refl, (register_is a p.0, (register_is b q.0, (target_word l q.1, tt)))) }
instr_is version kinds fields roots (instr.IfLess a b l) ks fs rs is =
    let p = and_parts (is_register a) (is_register b && is_target l) is in
    let q = and_parts (is_register b) (is_target l) p.1 in
    record { few = omega arith; word = (keyword (codes "ifless") refl, (register_is a p.0, (register_is b q.0, (target_word l q.1, tt)))) }
instr_is version kinds fields roots (instr.IfMarked a l) ks fs rs is =
    let p = and_parts (is_register a) (is_target l) is in
    record { few = omega arith; word = (keyword (codes "ifmarked") refl, (register_is a p.0, (target_word l p.1, tt))) }
instr_is version kinds fields roots (instr.Commit entries) ks fs rs is =
    let p = and_parts (nat_le (length entries) 4) (list_all (is_entry (length fields) (length roots)) entries) is in
    record { few = omega arith; word = (keyword (codes "commit") refl, (small_word 4 (length entries) (omega arith) p.0, tt)) }
instr_is version kinds fields roots (instr.Return a) ks fs rs is =
    record { few = omega arith; word = (keyword (codes "return") refl, (register_is a is, tt)) }
instr_is version kinds fields roots instr.ReturnNone ks fs rs is = record { few = omega arith; word = (keyword (codes "returnnone") refl, tt) }
instr_is version kinds fields roots instr.Again ks fs rs is = record { few = omega arith; word = (keyword (codes "again") refl, tt) }
