-- How the grammar reads a method of a target that the spelling writes.
use Rattle.std.specs.Prelude.{◌≡◌, ℕ, zero, suc, ◌+◌, ◌≤◌, true, false, List, [], ◌∷◌, ◌++◌, map, length, Result, Ok, Err, codes, nat_le}
use Rattle.std.specs.List.{list_all, AllByRecursion}
use Rattle.std.specs.Str.{bytes_eq}
use Rattle.std.proofs.Common.{refl, ap, ◌∙◌, sym, arith, append_assoc, length-append, cond}
use Rattle.std.proofs.lemmas.Bool.{and_parts, lt-ltb, le-ltb}
use Rattle.std.proofs.lemmas.List.{append-nil}
use Rattle.oa_text.specs.Lines.{numbered}
use Rattle.norm_lang.specs.declared.text.Reg.{Reg}
use Rattle.norm_lang.specs.declared.text.FieldDecl.{FieldDecl}
use Rattle.norm_lang.specs.declared.text.RootDecl.{RootDecl}
use Rattle.norm_lang.specs.declared.text.Place.{Place}
use Rattle.norm_lang.specs.declared.text.Place.TheVariants as places
use Rattle.norm_lang.specs.declared.text.CasEntry.{CasEntry}
use Rattle.norm_lang.specs.declared.text.Instr.{Instr}
use Rattle.norm_lang.specs.declared.text.Instr.TheVariants as instr
use Rattle.norm_lang.specs.declared.text.Version.TheVariants.{Second}
use Rattle.norm_lang.specs.Faults.{◌>>=◌, at_line}
use Rattle.norm_lang.specs.Spelling.{joined_words, spelled_cas, spelled_entry, spelled_instr, instr_lines}
use Rattle.norm_lang.specs.Instructions.{Step, Whole, Commits}
use Rattle.norm_lang.specs.Grammar.{is_new, is_comment}
use Rattle.norm_lang.specs.Kept.{holds_reference}
use Rattle.norm_lang.specs.Limits.{is_register, is_entry, is_instr}
use Rattle.norm_lang.proofs.SpelledLines.{IsLine, words_found, no_line_fault}
use Rattle.text_laws.proofs.WordsRead.{register_read, AreKinds, AreFields, AreRoots}
use Rattle.text_laws.proofs.InstrsRead.{step_read, entry_read, step_of, entry_spelled, instr_spelled}
use Rattle.text_laws.proofs.SpelledFolds.{passes_among}
use Rattle.line_words.specs.Lines.{first_word}
use Rattle.target_code.specs.declared.target.TargetInstr.{TargetInstr}
use Rattle.target_code.specs.declared.target.TargetInstr.TheVariants.{Plain, Check, Guard}
use Rattle.target_code.specs.declared.target.TargetOp.{TargetOp}
use Rattle.target_code.specs.TargetSpelling.{target_instr_lines, target_code_lines}
use Rattle.target_code.specs.TargetLimits.{is_target_new, target_news_in, target_news_of, is_target_instr}
use Rattle.target_reader.specs.TargetGrammar.{Part, Generator, WrapUp, OpsDraft, with_target_instr, has_place, is_fifth_target_new, with_target_entries, with_target_step, after_target_words, after_target_lines}

-- the draft after the lines' words
abbrev pub after_spelled : List (List ℕ) → List FieldDecl → List RootDecl → OpsDraft → List (List (List ℕ)) → Result OpsDraft ℕ
after_spelled kinds fields roots draft [] = Ok draft
after_spelled kinds fields roots draft (words ∷ lines) = after_target_words kinds fields roots draft (first_word words) >>= λ next. after_spelled kinds fields roots next lines

-- a first line, and then others
pub line_then : (kinds : List (List ℕ)) (fields : List FieldDecl) (roots : List RootDecl) (draft next : OpsDraft) (words : List (List ℕ)) (lines : List (List (List ℕ))) (r : Result OpsDraft ℕ)
    → after_target_words kinds fields roots draft (first_word words) ≡ Ok next → after_spelled kinds fields roots next lines ≡ r → after_spelled kinds fields roots draft (words ∷ lines) ≡ r
line_then kinds fields roots draft next words lines r first others = rw first others

-- first lines, and then others
pub lines_then : (kinds : List (List ℕ)) (fields : List FieldDecl) (roots : List RootDecl) (draft next : OpsDraft) (xs ys : List (List (List ℕ))) (r : Result OpsDraft ℕ)
    → after_spelled kinds fields roots draft xs ≡ Ok next → after_spelled kinds fields roots next ys ≡ r → after_spelled kinds fields roots draft (xs ++ ys) ≡ r
lines_then kinds fields roots draft next [] ys r first others = let same : draft ≡ next = cc in rw same others
lines_then kinds fields roots draft next (words ∷ xs) ys r first others = go (after_target_words kinds fields roots draft (first_word words)) first (λ d read. lines_then kinds fields roots d next xs ys r read others)
  where
    go : (w : Result OpsDraft ℕ) → (w >>= λ d. after_spelled kinds fields roots d xs) ≡ Ok next
        → ((d : OpsDraft) → after_spelled kinds fields roots d xs ≡ Ok next → after_spelled kinds fields roots d (xs ++ ys) ≡ r)
        → (w >>= λ d. after_spelled kinds fields roots d (xs ++ ys)) ≡ r
    go (Ok d) first more = more d first
    go (Err e) first more = let f : ⊥ = cc in absurd f

-- the lines' bytes give the draft that their words give
pub lines_read : (kinds : List (List ℕ)) (fields : List FieldDecl) (roots : List RootDecl) (lines : List (List (List ℕ))) (number : ℕ) (draft last : OpsDraft) → AllByRecursion IsLine lines
    → after_spelled kinds fields roots draft lines ≡ Ok last → after_target_lines kinds fields roots draft (numbered number (map joined_words lines)) ≡ Ok last
lines_read kinds fields roots [] number draft last are read = let same : draft ≡ last = cc in rw same refl
lines_read kinds fields roots (words ∷ lines) number draft last are read =
    rw (no_line_fault number words are.0, words_found words are.0)
    (go (after_target_words kinds fields roots draft (first_word words)) read (λ d read. lines_read kinds fields roots lines (number + 1) d last are.1 read))
  where
    go : (w : Result OpsDraft ℕ) → (w >>= λ d. after_spelled kinds fields roots d lines) ≡ Ok last
        → ((d : OpsDraft) → after_spelled kinds fields roots d lines ≡ Ok last → after_target_lines kinds fields roots d (numbered (number + 1) (map joined_words lines)) ≡ Ok last)
        → (at_line number w >>= λ d. after_target_lines kinds fields roots d (numbered (number + 1) (map joined_words lines))) ≡ Ok last
    go (Ok d) read more = more d read
    go (Err e) read more = let f : ⊥ = cc in absurd f

-- a line whose first word begins no comment and isn't of a target alone
record IsPlain (word : List ℕ) : Type 0 where
  uncommented : is_comment word ≡ false
  no_wrap : bytes_eq word (codes "wrap") ≡ false
  no_op : bytes_eq word (codes "op") ≡ false
  no_check : bytes_eq word (codes "chk") ≡ false
  no_guard : bytes_eq word (codes "grd") ≡ false

abbrev PlainLine : List (List ℕ) → Type 0
PlainLine [] = ⊥
PlainLine (word ∷ rest) = IsPlain word

is_plain : (word : List ℕ) → is_comment word ≡ false → bytes_eq word (codes "wrap") ≡ false → bytes_eq word (codes "op") ≡ false → bytes_eq word (codes "chk") ≡ false → bytes_eq word (codes "grd") ≡ false → IsPlain word
is_plain word a b c d e = record { uncommented = a; no_wrap = b; no_op = c; no_check = d; no_guard = e }

cas_plain : (fields : List FieldDecl) (roots : List RootDecl) (place : Place) (entry : CasEntry) (l : ℕ) → entry.place ≡ place → PlainLine (spelled_cas fields roots entry l)
cas_plain fields roots (places.Root x) entry l at = rw at (is_plain (codes "casroot") refl refl refl refl refl)
cas_plain fields roots (places.Field a f) entry l at = rw at (is_plain (codes "cas") refl refl refl refl refl)

instr_plain : (kinds : List (List ℕ)) (fields : List FieldDecl) (roots : List RootDecl) (i : Instr) → PlainLine (spelled_instr Second kinds fields roots i)
instr_plain kinds fields roots (instr.Cas entry l) = cas_plain fields roots entry.place entry l refl
instr_plain kinds fields roots _ = is_plain _ refl refl refl refl refl

entry_plain : (fields : List FieldDecl) (roots : List RootDecl) (place : Place) (entry : CasEntry) → entry.place ≡ place → PlainLine (spelled_entry fields roots entry)
entry_plain fields roots (places.Root x) entry at = rw at (is_plain (codes "withroot") refl refl refl refl refl)
entry_plain fields roots (places.Field a f) entry at = rw at (is_plain (codes "with") refl refl refl refl refl)

-- with the entries a draft waits in the same way, whatever it waited for before
waits : (left a : ℕ) (draft : OpsDraft) (b entries : List CasEntry) → with_target_entries left (record draft { left = a; entries = b }) entries ≡ with_target_entries left draft entries
waits zero a draft b entries = refl
waits (suc left) a draft b entries = refl

entry_line_read : (kinds : List (List ℕ)) (fields : List FieldDecl) (roots : List RootDecl) (left : ℕ) (draft : OpsDraft) (done : List CasEntry) (entry : CasEntry) (words : List (List ℕ)) → PlainLine words
    → entry_read fields roots words ≡ Ok entry
    → after_target_words kinds fields roots (with_target_entries (suc left) draft done) (first_word words) ≡ Ok (with_target_entries left draft (done ++ entry ∷ []))
entry_line_read kinds fields roots left draft done entry [] plain read = absurd plain
entry_line_read kinds fields roots left draft done entry (word ∷ rest) plain read = rw (plain.uncommented, read) (ap Ok (waits left (suc left) draft done (done ++ entry ∷ [])))

-- the entries of a commit, each with its line
entries_read : (kinds : List (List ℕ)) (fields : List FieldDecl) (roots : List RootDecl) (draft : OpsDraft) (done rest : List CasEntry) → AreFields fields → AreRoots roots
    → list_all (is_entry (length fields) (length roots)) rest ≡ true
    → after_spelled kinds fields roots (with_target_entries (length rest) draft done) (map (spelled_entry fields roots) rest) ≡ Ok (with_target_entries 0 draft (done ++ rest))
entries_read kinds fields roots draft done [] fs rs all = rw (append-nil done) refl
entries_read kinds fields roots draft done (entry ∷ rest) fs rs all =
    let parts = and_parts (is_entry (length fields) (length roots) entry) (list_all (is_entry (length fields) (length roots)) rest) all in
    line_then kinds fields roots (with_target_entries (suc (length rest)) draft done) (with_target_entries (length rest) draft (done ++ entry ∷ [])) (spelled_entry fields roots entry) (map (spelled_entry fields roots) rest) (Ok (with_target_entries 0 draft (done ++ entry ∷ rest)))
    (entry_line_read kinds fields roots (length rest) draft done entry (spelled_entry fields roots entry) (entry_plain fields roots entry.place entry refl) (entry_spelled fields roots entry fs rs parts.0))
    (entries_read kinds fields roots draft (done ++ entry ∷ []) rest fs rs parts.1 ∙ ap (λ l. Ok (with_target_entries 0 draft l)) (append_assoc done (entry ∷ []) rest))

-- a draft in a method
abbrev pub IsMethod : Part → Type 0
IsMethod Generator = Unit {0}
IsMethod WrapUp = Unit {0}
IsMethod _ = ⊥

abbrev pub in_code : Part → List TargetOp → TargetOp → OpsDraft
in_code part ops op = record { part = part; ops = ops; op = op; left = 0; entries = [] }

-- the line of a step in a method
step_line_read : (kinds : List (List ℕ)) (fields : List FieldDecl) (roots : List RootDecl) (part : Part) (ops : List TargetOp) (op : TargetOp) (words : List (List ℕ)) (step : Step) → IsMethod part → PlainLine words
    → step_read Second kinds fields roots words ≡ Ok step → has_place (in_code part ops op) ≡ true → is_fifth_target_new (in_code part ops op) step ≡ false
    → after_target_words kinds fields roots (in_code part ops op) (first_word words) ≡ Ok (with_target_step (in_code part ops op) step)
step_line_read kinds fields roots part ops op [] step is plain read room fifth = absurd plain
step_line_read kinds fields roots Generator ops op (word ∷ rest) step is plain read room fifth =
    rw (plain.uncommented, plain.no_wrap, plain.no_check, plain.no_guard, read, room, fifth) refl
step_line_read kinds fields roots WrapUp ops op (word ∷ rest) step is plain read room fifth =
    rw (plain.uncommented, plain.no_op, plain.no_check, plain.no_guard, read, room, fifth) refl
step_line_read kinds fields roots _ ops op (word ∷ rest) step is plain read room fifth = absurd is

-- the lines of an instruction of the language
plain_read : (kinds : List (List ℕ)) (fields : List FieldDecl) (roots : List RootDecl) (part : Part) (ops : List TargetOp) (op : TargetOp) (i : Instr) → IsMethod part → AreKinds Second kinds → AreFields fields → AreRoots roots
    → is_instr (length kinds) (length fields) (length roots) i ≡ true → has_place (in_code part ops op) ≡ true → is_fifth_target_new (in_code part ops op) (step_of i) ≡ false
    → after_spelled kinds fields roots (in_code part ops op) (instr_lines Second kinds fields roots i) ≡ Ok (in_code part ops (with_target_instr part op (Plain i)))
plain_read kinds fields roots part ops op (instr.Commit entries) is ks fs rs fits room fifth =
    let draft = in_code part ops op in
    let line = spelled_instr Second kinds fields roots (instr.Commit entries) in
    let parts = and_parts (nat_le (length entries) 4) (list_all (is_entry (length fields) (length roots)) entries) fits in
    line_then kinds fields roots draft (with_target_entries (length entries) draft []) line (map (spelled_entry fields roots) entries) (Ok (in_code part ops (with_target_instr part op (Plain (instr.Commit entries)))))
    (step_line_read kinds fields roots part ops op line (Commits (length entries)) is (instr_plain kinds fields roots (instr.Commit entries)) (instr_spelled Second kinds fields roots (instr.Commit entries) ks fs rs fits) room fifth)
    (entries_read kinds fields roots draft [] entries fs rs parts.1)
plain_read kinds fields roots part ops op i is ks fs rs fits room fifth =
    let draft = in_code part ops op in
    let next = in_code part ops (with_target_instr part op (Plain i)) in
    line_then kinds fields roots draft next (spelled_instr Second kinds fields roots i) [] (Ok next)
    (step_line_read kinds fields roots part ops op (spelled_instr Second kinds fields roots i) (Whole i) is (instr_plain kinds fields roots i) (instr_spelled Second kinds fields roots i ks fs rs fits) room fifth)
    refl

check_read : (kinds : List (List ℕ)) (fields : List FieldDecl) (roots : List RootDecl) (part : Part) (ops : List TargetOp) (op : TargetOp) → IsMethod part → has_place (in_code part ops op) ≡ true
    → after_spelled kinds fields roots (in_code part ops op) (target_instr_lines kinds fields roots Check) ≡ Ok (in_code part ops (with_target_instr part op Check))
check_read kinds fields roots Generator ops op is room = rw room refl
check_read kinds fields roots WrapUp ops op is room = rw room refl
check_read kinds fields roots _ ops op is room = absurd is

guard_read : (kinds : List (List ℕ)) (fields : List FieldDecl) (roots : List RootDecl) (part : Part) (ops : List TargetOp) (op : TargetOp) (r : Reg) → IsMethod part → has_place (in_code part ops op) ≡ true
    → holds_reference r ≡ true → is_register r ≡ true
    → after_spelled kinds fields roots (in_code part ops op) (target_instr_lines kinds fields roots (Guard r)) ≡ Ok (in_code part ops (with_target_instr part op (Guard r)))
guard_read kinds fields roots Generator ops op r is room reference fits = rw (register_read r fits, reference, room) refl
guard_read kinds fields roots WrapUp ops op r is room reference fits = rw (register_read r fits, reference, room) refl
guard_read kinds fields roots _ ops op r is room reference fits = absurd is

not_fifth : (draft : OpsDraft) (i : Instr) → (is_new i ≡ true → target_news_of draft.op ≤ 3) → is_fifth_target_new draft (step_of i) ≡ false
not_fifth draft (instr.New d kind) few = let le : target_news_of draft.op ≤ 3 = few refl in le-ltb 3 (target_news_of draft.op) le
not_fifth draft i few = refl

-- the lines of an instruction
instr_read : (kinds : List (List ℕ)) (fields : List FieldDecl) (roots : List RootDecl) (part : Part) (ops : List TargetOp) (op : TargetOp) (i : TargetInstr) → IsMethod part → AreKinds Second kinds → AreFields fields → AreRoots roots
    → is_target_instr (length kinds) (length fields) (length roots) i ≡ true → has_place (in_code part ops op) ≡ true → (is_target_new i ≡ true → target_news_of op ≤ 3)
    → after_spelled kinds fields roots (in_code part ops op) (target_instr_lines kinds fields roots i) ≡ Ok (in_code part ops (with_target_instr part op i))
instr_read kinds fields roots part ops op (Plain i) is ks fs rs fits room few = plain_read kinds fields roots part ops op i is ks fs rs fits room (not_fifth (in_code part ops op) i few)
instr_read kinds fields roots part ops op Check is ks fs rs fits room few = check_read kinds fields roots part ops op is room
instr_read kinds fields roots part ops op (Guard r) is ks fs rs fits room few =
    let p = and_parts (holds_reference r) (is_register r) fits in
    guard_read kinds fields roots part ops op r is room p.0 p.1

-- an operation with this code in the method
abbrev pub with_code : Part → TargetOp → List TargetInstr → TargetOp
with_code Generator op code = record op { generator = code }
with_code _ op code = record op { wrapup = code }

news_split : (done rest : List TargetInstr) → target_news_in (done ++ rest) ≡ target_news_in done + target_news_in rest
news_split [] rest = omega arith
news_split (i ∷ done) rest =
    elim (is_target_new i) as (λ t. cond t (target_news_in (done ++ rest) + 1) (target_news_in (done ++ rest)) ≡ cond t (target_news_in done + 1) (target_news_in done) + target_news_in rest) [
      | true ↦ omega (arith, news_split done rest)
      | false ↦ news_split done rest
    ]

news_before : (done rest whole : List TargetInstr) (i : TargetInstr) → done ++ i ∷ rest ≡ whole → is_target_new i ≡ true → target_news_in done + 1 ≤ target_news_in whole
news_before done rest whole i same new =
    let first : target_news_in (i ∷ rest) ≡ target_news_in rest + 1 = rw new refl in
    let all : target_news_in whole ≡ target_news_in done + target_news_in (i ∷ rest) = ap target_news_in (sym same) ∙ news_split done (i ∷ rest) in
    omega arith

place_left : (part : Part) (ops : List TargetOp) (op : TargetOp) (done rest whole : List TargetInstr) (i : TargetInstr) → IsMethod part → done ++ i ∷ rest ≡ whole → length whole ≤ 4096
    → has_place (in_code part ops (with_code part op done)) ≡ true
place_left Generator ops op done rest whole i is same short =
    let long : length whole ≡ length done + suc (length rest) = ap length (sym same) ∙ length-append done (i ∷ rest) in
    lt-ltb (length done) 4096 (omega arith)
place_left WrapUp ops op done rest whole i is same short =
    let long : length whole ≡ length done + suc (length rest) = ap length (sym same) ∙ length-append done (i ∷ rest) in
    lt-ltb (length done) 4096 (omega arith)
place_left _ ops op done rest whole i is same short = absurd is

few_left : (part : Part) (op : TargetOp) (done rest whole : List TargetInstr) (i : TargetInstr) → IsMethod part → done ++ i ∷ rest ≡ whole → target_news_of (with_code part op whole) ≤ 4
    → is_target_new i ≡ true → target_news_of (with_code part op done) ≤ 3
few_left Generator op done rest whole i is same few new = omega (arith, news_before done rest whole i same new)
few_left WrapUp op done rest whole i is same few new = omega (arith, news_before done rest whole i same new)
few_left _ op done rest whole i is same few new = absurd is

one_more : (part : Part) (op : TargetOp) (done : List TargetInstr) (i : TargetInstr) → IsMethod part → with_target_instr part (with_code part op done) i ≡ with_code part op (done ++ i ∷ [])
one_more Generator op done i is = refl
one_more WrapUp op done i is = refl
one_more _ op done i is = absurd is

-- the lines of a method's code
pub code_read : (kinds : List (List ℕ)) (fields : List FieldDecl) (roots : List RootDecl) (part : Part) (ops : List TargetOp) (op : TargetOp) (done rest whole : List TargetInstr) → IsMethod part → AreKinds Second kinds → AreFields fields → AreRoots roots
    → list_all (is_target_instr (length kinds) (length fields) (length roots)) whole ≡ true → length whole ≤ 4096 → target_news_of (with_code part op whole) ≤ 4 → done ++ rest ≡ whole
    → after_spelled kinds fields roots (in_code part ops (with_code part op done)) (target_code_lines kinds fields roots rest) ≡ Ok (in_code part ops (with_code part op whole))
code_read kinds fields roots part ops op done [] whole is ks fs rs fit short few same = let e : done ≡ whole = sym (append-nil done) ∙ same in rw e refl
code_read kinds fields roots part ops op done (i ∷ rest) whole is ks fs rs fit short few same =
    let draft = in_code part ops (with_code part op done) in
    let next = in_code part ops (with_code part op (done ++ i ∷ [])) in
    let last = in_code part ops (with_code part op whole) in
    lines_then kinds fields roots draft next (target_instr_lines kinds fields roots i) (target_code_lines kinds fields roots rest) (Ok last)
    (instr_read kinds fields roots part ops (with_code part op done) i is ks fs rs (passes_among (is_target_instr (length kinds) (length fields) (length roots)) done rest whole i same fit)
    (place_left part ops op done rest whole i is same short) (few_left part op done rest whole i is same few)
    ∙ ap (λ o. Ok (in_code part ops o)) (one_more part op done i is))
    (code_read kinds fields roots part ops op (done ++ i ∷ []) rest whole is ks fs rs fit short few (append_assoc done (i ∷ []) rest ∙ same))
