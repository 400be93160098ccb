-- How the grammar reads a method that the spelling writes.
use Rattle.std.specs.Prelude.{◌≡◌, ℕ, zero, suc, ◌+◌, ◌<◌, ◌≤◌, ◌&&◌, Bool, true, false, not, List, [], ◌∷◌, ◌++◌, map, length, Ok, codes, nat_le}
use Rattle.std.specs.List.{list_all}
use Rattle.std.specs.Str.{bytes_eq}
use Rattle.std.proofs.Common.{refl, ap, ◌∙◌, sym, arith, append_assoc, length-append, cond}
use Rattle.std.proofs.lemmas.Bool.{and_parts, not-true, lt-ltb, le-ltb}
use Rattle.std.proofs.lemmas.List.{append-nil}
use Rattle.norm_lang.specs.declared.text.FieldDecl.{FieldDecl}
use Rattle.norm_lang.specs.declared.text.RootDecl.{RootDecl}
use Rattle.norm_lang.specs.declared.text.Place.{Place}
use Rattle.norm_lang.specs.declared.text.Place.TheVariants as places
use Rattle.norm_lang.specs.declared.text.CasEntry.{CasEntry}
use Rattle.norm_lang.specs.declared.text.Instr.{Instr}
use Rattle.norm_lang.specs.declared.text.Instr.TheVariants as instr
use Rattle.norm_lang.specs.declared.text.Op.{Op}
use Rattle.norm_lang.specs.declared.text.Text.{Text}
use Rattle.norm_lang.specs.declared.text.Version.{Version}
use Rattle.norm_lang.specs.Spelling.{spelled_cas, spelled_entry, spelled_instr, instr_lines, code_lines}
use Rattle.norm_lang.specs.Instructions.{Step, Whole, Commits}
use Rattle.norm_lang.specs.Grammar.{Section, Generator, WrapUp, Draft, is_new, news_in, news_of, with_instr, with_entries, with_step, is_fifth_new, has_room, is_comment, after_words}
use Rattle.norm_lang.specs.Limits.{is_entry, is_instr, owners_of}
use Rattle.text_laws.proofs.WordsRead.{AreKinds, AreFields, AreRoots}
use Rattle.text_laws.proofs.InstrsRead.{step_read, entry_read, step_of, entry_spelled, instr_spelled}
use Rattle.text_laws.proofs.SpelledFolds.{after_spelled, line_then, lines_then, passes_among}

-- a line whose first word begins no comment, and isn't `wrap` or `op`
abbrev is_inside : List (List ℕ) → Bool
is_inside [] = false
is_inside (word ∷ rest) = not (is_comment word) && (not (bytes_eq word (codes "wrap")) && not (bytes_eq word (codes "op")))

cas_inside : (fields : List FieldDecl) (roots : List RootDecl) (place : Place) (entry : CasEntry) (l : ℕ) → entry.place ≡ place → is_inside (spelled_cas fields roots entry l) ≡ true
cas_inside fields roots (places.Root x) entry l at = rw at refl
cas_inside fields roots (places.Field a f) entry l at = rw at refl

instr_inside : (version : Version) (kinds : List (List ℕ)) (fields : List FieldDecl) (roots : List RootDecl) (i : Instr) → is_inside (spelled_instr version kinds fields roots i) ≡ true
instr_inside version kinds fields roots (instr.Cas entry l) = cas_inside fields roots entry.place entry l refl
instr_inside version kinds fields roots _ = refl

entry_inside : (fields : List FieldDecl) (roots : List RootDecl) (place : Place) (entry : CasEntry) → entry.place ≡ place → is_inside (spelled_entry fields roots entry) ≡ true
entry_inside fields roots (places.Root x) entry at = rw at refl
entry_inside fields roots (places.Field a f) entry at = rw at refl

-- with the entries a draft waits in the same way, whatever it waited for before
waits : (left a : ℕ) (draft : Draft) (b entries : List CasEntry) → with_entries left (record draft { left = a; entries = b }) entries ≡ with_entries left draft entries
waits zero a draft b entries = refl
waits (suc left) a draft b entries = refl

entry_line_read : (left : ℕ) (draft : Draft) (done : List CasEntry) (entry : CasEntry) (words : List (List ℕ))
    → is_inside words ≡ true → entry_read draft.text.fields draft.text.roots words ≡ Ok entry
    → after_words (with_entries (suc left) draft done) words ≡ Ok (with_entries left draft (done ++ entry ∷ []))
entry_line_read left draft done entry [] inside read = let e : false ≡ true = inside in absurd (let f : ⊥ = cc in f)
entry_line_read left draft done entry (word ∷ rest) inside read =
    let plain : is_comment word ≡ false = not-true (is_comment word) (and_parts (not (is_comment word)) (not (bytes_eq word (codes "wrap")) && not (bytes_eq word (codes "op"))) inside).0 in
    rw (plain, read) (ap Ok (waits left (suc left) draft done (done ++ entry ∷ [])))

-- the entries of a commit, each with its line
entries_read : (draft : Draft) (done rest : List CasEntry) → AreFields draft.text.fields → AreRoots draft.text.roots
    → list_all (is_entry (length draft.text.fields) (length draft.text.roots)) rest ≡ true
    → after_spelled (with_entries (length rest) draft done) (map (spelled_entry draft.text.fields draft.text.roots) rest) ≡ Ok (with_entries 0 draft (done ++ rest))
entries_read draft done [] fs rs all = rw (append-nil done) refl
entries_read draft done (entry ∷ rest) fs rs all =
    let fields = draft.text.fields in
    let roots = draft.text.roots in
    let parts = and_parts (is_entry (length fields) (length roots) entry) (list_all (is_entry (length fields) (length roots)) rest) all in
    line_then (with_entries (suc (length rest)) draft done) (with_entries (length rest) draft (done ++ entry ∷ [])) (spelled_entry fields roots entry) (map (spelled_entry fields roots) rest) (Ok (with_entries 0 draft (done ++ entry ∷ rest)))
    (entry_line_read (length rest) draft done entry (spelled_entry fields roots entry) (entry_inside fields roots entry.place entry refl) (entry_spelled fields roots entry fs rs parts.0))
    (entries_read draft (done ++ entry ∷ []) rest fs rs parts.1 ∙ ap (λ l. Ok (with_entries 0 draft l)) (append_assoc done (entry ∷ []) rest))

-- a draft in a method
abbrev pub IsMethod : Section → Type 0
IsMethod Generator = Unit {0}
IsMethod WrapUp = Unit {0}
IsMethod _ = ⊥

-- a text's declarations, with these operations, and the operation whose lines stand here
abbrev pub in_code : Version → Text → Section → List Op → Op → Draft
in_code version text section ops op = record {
  section = section;
  version = version;
  counted = length text.kinds;
  owners = owners_of text.nodes;
  text = record text { ops = ops };
  op = op;
  left = 0;
  entries = [];
}

-- the kinds, fields and roots of a text that stands in a version have different names
pub record AreNamed (version : Version) (text : Text) : Type 0 where
  pub kinds : AreKinds version text.kinds
  pub fields : AreFields text.fields
  pub roots : AreRoots text.roots

-- an instruction with a text's declarations
abbrev pub fits_in : Text → Instr → Bool
fits_in text i = is_instr (length text.kinds) (length text.fields) (length text.roots) i

-- the line of a step in a method
step_line_read : (version : Version) (text : Text) (section : Section) (ops : List Op) (op : Op) (words : List (List ℕ)) (step : Step)
    → IsMethod section → is_inside words ≡ true → step_read version text.kinds text.fields text.roots words ≡ Ok step → has_room (in_code version text section ops op) step ≡ true
    → after_words (in_code version text section ops op) words ≡ Ok (with_step (in_code version text section ops op) step)
step_line_read version text section ops op [] step is inside read room = let e : false ≡ true = inside in absurd (let f : ⊥ = cc in f)
step_line_read version text Generator ops op (word ∷ rest) step is inside read room =
    let p = and_parts (not (is_comment word)) (not (bytes_eq word (codes "wrap")) && not (bytes_eq word (codes "op"))) inside in
    let q = and_parts (not (bytes_eq word (codes "wrap"))) (not (bytes_eq word (codes "op"))) p.1 in
    rw (not-true (is_comment word) p.0, not-true (bytes_eq word (codes "wrap")) q.0, read, room) refl
step_line_read version text WrapUp ops op (word ∷ rest) step is inside read room =
    let p = and_parts (not (is_comment word)) (not (bytes_eq word (codes "wrap")) && not (bytes_eq word (codes "op"))) inside in
    let q = and_parts (not (bytes_eq word (codes "wrap"))) (not (bytes_eq word (codes "op"))) p.1 in
    rw (not-true (is_comment word) p.0, not-true (bytes_eq word (codes "op")) q.1, read, room) refl
step_line_read version text _ ops op (word ∷ rest) step is inside read room = absurd is

-- the lines of an instruction in a method
instr_read : (version : Version) (text : Text) (section : Section) (ops : List Op) (op : Op) (i : Instr)
    → IsMethod section → AreNamed version text → fits_in text i ≡ true → has_room (in_code version text section ops op) (step_of i) ≡ true
    → after_spelled (in_code version text section ops op) (instr_lines version text.kinds text.fields text.roots i) ≡ Ok (in_code version text section ops (with_instr section op i))
instr_read version text section ops op (instr.Commit entries) is named fits room =
    let draft = in_code version text section ops op in
    let line = spelled_instr version text.kinds text.fields text.roots (instr.Commit entries) in
    let parts = and_parts (nat_le (length entries) 4) (list_all (is_entry (length text.fields) (length text.roots)) entries) fits in
    line_then draft (with_entries (length entries) draft []) line (map (spelled_entry text.fields text.roots) entries) (Ok (in_code version text section ops (with_instr section op (instr.Commit entries))))
    (step_line_read version text section ops op line (Commits (length entries)) is refl (instr_spelled version text.kinds text.fields text.roots (instr.Commit entries) named.kinds named.fields named.roots fits) room)
    (entries_read draft [] entries named.fields named.roots parts.1)
instr_read version text section ops op i is named fits room =
    let draft = in_code version text section ops op in
    let next = in_code version text section ops (with_instr section op i) in
    let line = spelled_instr version text.kinds text.fields text.roots i in
    line_then draft next line [] (Ok next)
    (step_line_read version text section ops op line (Whole i) is (instr_inside version text.kinds text.fields text.roots i) (instr_spelled version text.kinds text.fields text.roots i named.kinds named.fields named.roots fits) room)
    refl

-- an operation with this code in the method
abbrev pub with_code : Section → Op → List Instr → Op
with_code Generator op code = record op { generator = code }
with_code _ op code = record op { wrapup = code }

news_split : (done rest : List Instr) → news_in (done ++ rest) ≡ news_in done + news_in rest
news_split [] rest = omega arith
news_split (i ∷ done) rest =
    elim (is_new i) as (λ t. cond t (news_in (done ++ rest) + 1) (news_in (done ++ rest)) ≡ cond t (news_in done + 1) (news_in done) + news_in rest) [
      | true ↦ omega (arith, news_split done rest)
      | false ↦ news_split done rest
    ]

news_before : (done rest whole : List Instr) (i : Instr) → done ++ i ∷ rest ≡ whole → is_new i ≡ true → news_in done + 1 ≤ news_in whole
news_before done rest whole i same new =
    let first : news_in (i ∷ rest) ≡ news_in rest + 1 = rw new refl in
    let all : news_in whole ≡ news_in done + news_in (i ∷ rest) = ap news_in (sym same) ∙ news_split done (i ∷ rest) in
    omega arith

not_fifth : (op : Op) (i : Instr) → (is_new i ≡ true → news_of op ≤ 3) → is_fifth_new op (step_of i) ≡ false
not_fifth op (instr.New d kind) few = let le : news_of op ≤ 3 = few refl in le-ltb 3 (news_of op) le
not_fifth op i few = refl

room_left : (version : Version) (text : Text) (section : Section) (ops : List Op) (op : Op) (done rest whole : List Instr) (i : Instr)
    → IsMethod section → done ++ i ∷ rest ≡ whole → length whole ≤ 256 → news_of (with_code section op whole) ≤ 4
    → has_room (in_code version text section ops (with_code section op done)) (step_of i) ≡ true
room_left version text Generator ops op done rest whole i is same short few =
    let long : length whole ≡ length done + suc (length rest) = ap length (sym same) ∙ length-append done (i ∷ rest) in
    let lt : length done < 256 = omega arith in
    let fifth : is_fifth_new (record op { generator = done }) (step_of i) ≡ false = not_fifth (record op { generator = done }) i (λ new. omega (arith, news_before done rest whole i same new)) in
    rw (lt-ltb (length done) 256 lt, fifth) refl
room_left version text WrapUp ops op done rest whole i is same short few =
    let long : length whole ≡ length done + suc (length rest) = ap length (sym same) ∙ length-append done (i ∷ rest) in
    let lt : length done < 256 = omega arith in
    let fifth : is_fifth_new (record op { wrapup = done }) (step_of i) ≡ false = not_fifth (record op { wrapup = done }) i (λ new. omega (arith, news_before done rest whole i same new)) in
    rw (lt-ltb (length done) 256 lt, fifth) refl
room_left version text _ ops op done rest whole i is same short few = absurd is

one_more : (section : Section) (op : Op) (done : List Instr) (i : Instr) → IsMethod section → with_instr section (with_code section op done) i ≡ with_code section op (done ++ i ∷ [])
one_more Generator op done i is = refl
one_more WrapUp op done i is = refl
one_more _ op done i is = absurd is

-- the lines of a method's code
pub code_read : (version : Version) (text : Text) (section : Section) (ops : List Op) (op : Op) (done rest whole : List Instr)
    → IsMethod section → AreNamed version text → list_all (fits_in text) whole ≡ true → length whole ≤ 256 → news_of (with_code section op whole) ≤ 4
    → done ++ rest ≡ whole
    → after_spelled (in_code version text section ops (with_code section op done)) (code_lines version text.kinds text.fields text.roots rest) ≡ Ok (in_code version text section ops (with_code section op whole))
code_read version text section ops op done [] whole is named fit short few same = let e : done ≡ whole = sym (append-nil done) ∙ same in rw e refl
code_read version text section ops op done (i ∷ rest) whole is named fit short few same =
    let draft = in_code version text section ops (with_code section op done) in
    let next = in_code version text section ops (with_code section op (done ++ i ∷ [])) in
    let last = in_code version text section ops (with_code section op whole) in
    lines_then draft next (instr_lines version text.kinds text.fields text.roots i) (code_lines version text.kinds text.fields text.roots rest) (Ok last)
    (instr_read version text section ops (with_code section op done) i is named (passes_among (fits_in text) done rest whole i same fit)
    (room_left version text section ops op done rest whole i is same short few)
    ∙ ap (λ o. Ok (in_code version text section ops o)) (one_more section op done i is))
    (code_read version text section ops op (done ++ i ∷ []) rest whole is named fit short few (append_assoc done (i ∷ []) rest ∙ same))
