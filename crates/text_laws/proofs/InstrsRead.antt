-- How the grammar reads each instruction that the spelling writes.
use Rattle.std.specs.Prelude.{◌≡◌, ℕ, ◌^◌, ◌<◌, ◌≤◌, ◌&&◌, true, List, [], ◌∷◌, length, Option, Some, None, Result, Ok, Err, nat_le, nat_lt}
use Rattle.std.specs.List.{list_all}
use Rattle.std.proofs.Common.{refl, arith}
use Rattle.std.proofs.lemmas.Bool.{and_parts, lt-ltb, leb-true}
use Rattle.std.proofs.lemmas.Bool.Decides.{nat_tests}
use Rattle.norm_lang.specs.declared.text.Reg.{Reg}
use Rattle.norm_lang.specs.declared.text.FieldDecl.{FieldDecl}
use Rattle.norm_lang.specs.declared.text.RootDecl.{RootDecl}
use Rattle.norm_lang.specs.declared.text.Place.{Place}
use Rattle.norm_lang.specs.declared.text.Place.TheVariants as places
use Rattle.norm_lang.specs.declared.text.CasEntry.{CasEntry}
use Rattle.norm_lang.specs.declared.text.Instr.{Instr}
use Rattle.norm_lang.specs.declared.text.Instr.TheVariants as instr
use Rattle.norm_lang.specs.declared.text.Version.{Version}
use Rattle.norm_lang.specs.Spelling.{retire_words, spelled_cas, spelled_entry, spelled_instr}
use Rattle.norm_lang.specs.Faults.{form_fault}
use Rattle.norm_lang.specs.Instructions.{retire_at, Step, Whole, Commits, step_line, entry_line}
use Rattle.norm_lang.specs.Limits.{is_number, is_register, is_target, is_retire, is_entry, is_instr}
use Rattle.text_laws.proofs.WordsRead.{number_read, register_read, AreKinds, AreFields, AreRoots, last_owner_read, field_spelled, field_read, root_spelled, root_read}

-- a line of a method, by its first word
abbrev pub step_read : Version → List (List ℕ) → List FieldDecl → List RootDecl → List (List ℕ) → Result Step ℕ
step_read version kinds fields roots [] = Err form_fault
step_read version kinds fields roots (word ∷ rest) = step_line version kinds fields roots word rest

-- an entry line of a commit, by its first word
abbrev pub entry_read : List FieldDecl → List RootDecl → List (List ℕ) → Result CasEntry ℕ
entry_read fields roots [] = Err form_fault
entry_read fields roots (word ∷ rest) = entry_line fields roots word rest

-- what an instruction's line says: the instruction, or how many entries of a commit follow
abbrev pub step_of : Instr → Step
step_of (instr.Commit entries) = Commits (length entries)
step_of i = Whole i

small : (most n : ℕ) → most < 2 ^ 64 → nat_le n most ≡ true → is_number n ≡ true
small most n fits le = let k : n ≤ most = leb-true n most le in lt-ltb n (2 ^ 64) (omega arith)

positive : (n : ℕ) → nat_le 1 n ≡ true → nat_lt 0 n ≡ true
positive n some = grind (arith, nat_tests)

target_small : (l : ℕ) → is_target l ≡ true → is_number l ≡ true
target_small l is = small 65535 l (omega arith) is

retire_read : (retire : Option Reg) → is_retire retire ≡ true → retire_at (retire_words retire) ≡ Ok retire
retire_read None is = refl
retire_read (Some r) is = rw (register_read r is) refl

each_entry : (fields : List FieldDecl) (roots : List RootDecl) (place : Place) (expected replacement : Reg) (retire : Option Reg) → AreFields fields → AreRoots roots
    → is_entry (length fields) (length roots) (record { place = place; expected = expected; replacement = replacement; retire = retire }) ≡ true
    → entry_read fields roots (spelled_entry fields roots (record { place = place; expected = expected; replacement = replacement; retire = retire })) ≡ Ok (record { place = place; expected = expected; replacement = replacement; retire = retire })
each_entry fields roots (places.Root x) expected replacement retire fs rs is =
    let p = and_parts (nat_lt x (length roots)) (is_register expected && (is_register replacement && is_retire retire)) is in
    let q = and_parts (is_register expected) (is_register replacement && is_retire retire) p.1 in
    let t = and_parts (is_register replacement) (is_retire retire) q.1 in
    rw (root_spelled roots x rs p.0, register_read expected q.0, register_read replacement t.0, retire_read retire t.1, root_read roots x rs p.0) refl
each_entry fields roots (places.Field a f) expected replacement retire fs rs is =
    let p = and_parts (is_register a && nat_lt f (length fields)) (is_register expected && (is_register replacement && is_retire retire)) is in
    let o = and_parts (is_register a) (nat_lt f (length fields)) p.0 in
    let q = and_parts (is_register expected) (is_register replacement && is_retire retire) p.1 in
    let t = and_parts (is_register replacement) (is_retire retire) q.1 in
    rw (register_read a o.0, field_spelled fields f fs o.1, register_read expected q.0, register_read replacement t.0, retire_read retire t.1, field_read fields f fs o.1) refl

-- an entry line of a commit is read as the entry
pub entry_spelled : (fields : List FieldDecl) (roots : List RootDecl) (entry : CasEntry) → AreFields fields → AreRoots roots → is_entry (length fields) (length roots) entry ≡ true
    → entry_read fields roots (spelled_entry fields roots entry) ≡ Ok entry
entry_spelled fields roots entry fs rs is = each_entry fields roots entry.place entry.expected entry.replacement entry.retire fs rs is

cas_spelled : (version : Version) (kinds : List (List ℕ)) (fields : List FieldDecl) (roots : List RootDecl) (place : Place) (expected replacement : Reg) (retire : Option Reg) (l : ℕ) → AreFields fields → AreRoots roots
    → is_entry (length fields) (length roots) (record { place = place; expected = expected; replacement = replacement; retire = retire }) ≡ true → is_target l ≡ true
    → step_read version kinds fields roots (spelled_cas fields roots (record { place = place; expected = expected; replacement = replacement; retire = retire }) l) ≡ Ok (Whole (instr.Cas (record { place = place; expected = expected; replacement = replacement; retire = retire }) l))
cas_spelled version kinds fields roots (places.Root x) expected replacement retire l fs rs is to =
    let p = and_parts (nat_lt x (length roots)) (is_register expected && (is_register replacement && is_retire retire)) is in
    let q = and_parts (is_register expected) (is_register replacement && is_retire retire) p.1 in
    let t = and_parts (is_register replacement) (is_retire retire) q.1 in
    rw (root_spelled roots x rs p.0, register_read expected q.0, register_read replacement t.0, number_read l (target_small l to), retire_read retire t.1, root_read roots x rs p.0, to) refl
cas_spelled version kinds fields roots (places.Field a f) expected replacement retire l fs rs is to =
    let p = and_parts (is_register a && nat_lt f (length fields)) (is_register expected && (is_register replacement && is_retire retire)) is in
    let o = and_parts (is_register a) (nat_lt f (length fields)) p.0 in
    let q = and_parts (is_register expected) (is_register replacement && is_retire retire) p.1 in
    let t = and_parts (is_register replacement) (is_retire retire) q.1 in
    rw (register_read a o.0, field_spelled fields f fs o.1, register_read expected q.0, register_read replacement t.0, number_read l (target_small l to), retire_read retire t.1, field_read fields f fs o.1, to) refl

-- the line of an instruction is read as it
pub instr_spelled : (version : Version) (kinds : List (List ℕ)) (fields : List FieldDecl) (roots : List RootDecl) (i : Instr) → AreKinds version kinds → AreFields fields → AreRoots roots → is_instr (length kinds) (length fields) (length roots) i ≡ true
    → step_read version kinds fields roots (spelled_instr version kinds fields roots i) ≡ Ok (step_of i)
instr_spelled version kinds fields roots (instr.Set d n) ks fs rs is =
    let p = and_parts (is_register d) (is_number n) is in
    rw (register_read d p.0, number_read n p.1) refl
instr_spelled version kinds fields roots (instr.Mov d a) ks fs rs is =
    let p = and_parts (is_register d) (is_register a) is in
    rw (register_read d p.0, register_read a p.1) refl
instr_spelled version kinds fields roots (instr.Add d a b) ks fs rs is =
    let p = and_parts (is_register d) (is_register a && is_register b) is in
    let q = and_parts (is_register a) (is_register b) p.1 in
    rw (register_read d p.0, register_read a q.0, register_read b q.1) refl
instr_spelled version kinds fields roots (instr.Sub d a b) ks fs rs is =
    let p = and_parts (is_register d) (is_register a && is_register b) is in
    let q = and_parts (is_register a) (is_register b) p.1 in
    rw (register_read d p.0, register_read a q.0, register_read b q.1) refl
instr_spelled version kinds fields roots (instr.Rem d a n) ks fs rs is =
    let p = and_parts (is_register d) (is_register a && (nat_le 1 n && is_number n)) is in
    let q = and_parts (is_register a) (nat_le 1 n && is_number n) p.1 in
    let t = and_parts (nat_le 1 n) (is_number n) q.1 in
    rw (register_read d p.0, register_read a q.0, number_read n t.1, positive n t.0) refl
instr_spelled version kinds fields roots (instr.Mark d a) ks fs rs is =
    let p = and_parts (is_register d) (is_register a) is in
    rw (register_read d p.0, register_read a p.1) refl
instr_spelled version kinds fields roots (instr.Unmark d a) ks fs rs is =
    let p = and_parts (is_register d) (is_register a) is in
    rw (register_read d p.0, register_read a p.1) refl
instr_spelled version kinds fields roots (instr.Null d) ks fs rs is = rw (register_read d is) refl
instr_spelled version kinds fields roots (instr.LoadRoot d x) ks fs rs is =
    let p = and_parts (is_register d) (nat_lt x (length roots)) is in
    rw (register_read d p.0, root_spelled roots x rs p.1, root_read roots x rs p.1) refl
instr_spelled version kinds fields roots (instr.LoadPick d x n a) ks fs rs is =
    let p = and_parts (is_register d) (nat_lt x (length roots) && ((nat_le 1 n && nat_le n 256) && is_register a)) is in
    let q = and_parts (nat_lt x (length roots)) ((nat_le 1 n && nat_le n 256) && is_register a) p.1 in
    let t = and_parts (nat_le 1 n && nat_le n 256) (is_register a) q.1 in
    let u = and_parts (nat_le 1 n) (nat_le n 256) t.0 in
    rw (register_read d p.0, root_spelled roots x rs q.0, number_read n (small 256 n (omega arith) u.1), positive n u.0, register_read a t.1, root_read roots x rs q.0, u.1) refl
instr_spelled version kinds fields roots (instr.LoadField d a f) ks fs rs is =
    let p = and_parts (is_register d) (is_register a && nat_lt f (length fields)) is in
    let q = and_parts (is_register a) (nat_lt f (length fields)) p.1 in
    rw (register_read d p.0, register_read a q.0, field_spelled fields f fs q.1, field_read fields f fs q.1) refl
instr_spelled version kinds fields roots (instr.New d kind) ks fs rs is =
    let p = and_parts (is_register d) (nat_lt kind (length kinds)) is in
    rw (register_read d p.0, last_owner_read version kinds kind ks p.1) refl
instr_spelled version kinds fields roots (instr.Put a f b) ks fs rs is =
    let p = and_parts (is_register a) (nat_lt f (length fields) && is_register b) is in
    let q = and_parts (nat_lt f (length fields)) (is_register b) p.1 in
    rw (register_read a p.0, field_spelled fields f fs q.0, register_read b q.1, field_read fields f fs q.0) refl
instr_spelled version kinds fields roots (instr.Cas entry l) ks fs rs is =
    let p = and_parts (is_entry (length fields) (length roots) entry) (is_target l) is in
    cas_spelled version kinds fields roots entry.place entry.expected entry.replacement entry.retire l fs rs p.0 p.1
instr_spelled version kinds fields roots (instr.Jump l) ks fs rs is = rw (number_read l (target_small l is), is) refl
instr_spelled version kinds fields roots (instr.IfEq a b l) ks fs rs is =
    let p = and_parts (is_register a) (is_register b && is_target l) is in
    let q = and_parts (is_register b) (is_target l) p.1 in
    rw (register_read a p.0, register_read b q.0, number_read l (target_small l q.1), q.1) refl
instr_spelled version kinds fields roots (instr.IfLess a b l) ks fs rs is =
    let p = and_parts (is_register a) (is_register b && is_target l) is in
    let q = and_parts (is_register b) (is_target l) p.1 in
    rw (register_read a p.0, register_read b q.0, number_read l (target_small l q.1), q.1) refl
instr_spelled version kinds fields roots (instr.IfMarked a l) ks fs rs is =
    let p = and_parts (is_register a) (is_target l) is in
    rw (register_read a p.0, number_read l (target_small l p.1), p.1) refl
instr_spelled version kinds fields roots (instr.Commit entries) ks fs rs is =
    let p = and_parts (nat_le (length entries) 4) (list_all (is_entry (length fields) (length roots)) entries) is in
    rw (number_read (length entries) (small 4 (length entries) (omega arith) p.0), p.0) refl
instr_spelled version kinds fields roots (instr.Return a) ks fs rs is = rw (register_read a is) refl
instr_spelled version kinds fields roots instr.ReturnNone ks fs rs is = refl
instr_spelled version kinds fields roots instr.Again ks fs rs is = refl
