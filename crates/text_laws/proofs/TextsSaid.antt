-- Bytes stand for a text exactly if their lines are plain and say it.
use Rattle.std.specs.Prelude.{◌≡◌, ℕ, ◌+◌, ◌^◌, ◌≤◌, Bool, true, false, cond, not, List, [], ◌∷◌, ◌++◌, length, Option, Some, None, Result, Ok, Err, IfOk, nat_lt, nat_le, if◌then◌else◌}
use Rattle.std.specs.List.{list_all}
use Rattle.std.proofs.Common.{refl, ap, ◌∙◌, sym, arith, append_assoc, ⊎_elim}
use Rattle.std.proofs.lemmas.Bool.{and_from, and_parts, lt-ltb, le-leb, le-ltb, leb-true}
use Rattle.std.proofs.lemmas.Bool.Decides.{nat_tests}
use Rattle.std.proofs.lemmas.List.{append-nil}
use Rattle.std.proofs.lemmas.Result.{IfOk-at_ok}
use Rattle.oa_text.specs.declared.fault.TextFault.TheVariants as faults
use Rattle.oa_text.specs.Lines.{TextLine, lines_of, numbered}
use Rattle.oa_text.specs.Tokens.{is_plain, words_of, odd_column_from, byte_fault, line_fault}
use Rattle.norm_lang.specs.declared.text.Text.{Text}
use Rattle.norm_lang.specs.declared.text.Version.{Version}
use Rattle.norm_lang.specs.declared.text.Version.TheVariants.{First, Second}
use Rattle.norm_lang.specs.Faults.{LineFault, ◌>>=◌, at_line}
use Rattle.norm_lang.specs.Spelling.{spelled_version, spelled_by}
use Rattle.norm_lang.specs.Limits.{is_number, IsWithinLimits}
use Rattle.norm_lang.specs.Grammar.{Start, Opening, Shipped, Draft, draft_at, after_words, plain, after_line, after_lines, finished, text_in, Grammar}
use Rattle.text_laws.specs.StandsFor.{is_plain_byte, is_plain_line, ArePlain, begins_with_hash, is_skipped, told_in, told, ShippedText, TheList, TheSet, TheQueue, IsShipped, spelled_use, shipped_text, SaysText, TextsAreSaid}
use Rattle.text_laws.proofs.Readings.{then_has, anyhow}
use Rattle.text_laws.proofs.DraftLimits.{Kept, line_kept, at_line_has, nothing_declared, texts_are_within}
use Rattle.text_laws.proofs.DraftSaid.{SaidIn, told_line, same_comment, words_said, nothing_said, finished_said}
use Rattle.text_laws.proofs.SpelledFolds.{after_spelled}
use Rattle.text_laws.proofs.SpellingStands.{GivesText, text_is, spelling_gives, text_from}
use Rattle.text_laws.proofs.WordsRead.{number_read}

abbrev Lines : Type 0
Lines = List (List (List ℕ))

-- what is read has both
pub both : {A E : Type 0} (r : Result A E) (P Q : A → Type 0) → IfOk r P → IfOk r Q → IfOk r (λ x. P x × Q x)
both (Ok x) P Q p q = (p, q)
both (Err e) P Q p q = tt

-- what is read has what follows
pub follows : {A E : Type 0} (r : Result A E) (P Q : A → Type 0) → IfOk r P → ((x : A) → P x → Q x) → IfOk r Q
follows (Ok x) P Q p next = next x p
follows (Err e) P Q p next = tt

-- the lines that are told, with one line first
pub told_first : (words : List (List ℕ)) (told : Lines) (taken : Bool) → cond taken (words ∷ told) told ≡ cond taken (words ∷ []) [] ++ told
told_first words told true = refl
told_first words told false = refl

line_said : (draft : Draft) (line : TextLine) (so_far : Lines) → Kept draft → SaidIn so_far draft → IfOk (after_line draft line) (SaidIn (so_far ++ told_line (words_of line.bytes)))
line_said draft line so_far keeps h = anyhow (plain (line_fault line)) _ (SaidIn (so_far ++ told_line (words_of line.bytes))) λ done. words_said draft (words_of line.bytes) so_far keeps h

-- the draft after lines is what they tell
pub lines_said : (number : ℕ) (draft : Draft) (lines : List (List ℕ)) (so_far whole : Lines) → Kept draft → SaidIn so_far draft → so_far ++ told_in lines ≡ whole
    → IfOk (after_lines draft (numbered number lines)) (SaidIn whole)
lines_said number draft [] so_far whole keeps h same = rw (← same, append-nil so_far) h
lines_said number draft (bytes ∷ lines) so_far whole keeps h same =
    let line : TextLine = record { number = number; bytes = bytes } in
    let words = words_of bytes in
    then_has (at_line number (after_line draft line)) _ (λ next. Kept next × SaidIn (so_far ++ told_line words) next) (SaidIn whole)
    (at_line_has number (after_line draft line) (λ next. Kept next × SaidIn (so_far ++ told_line words) next)
    (both (after_line draft line) Kept (SaidIn (so_far ++ told_line words)) (line_kept draft line keeps) (line_said draft line so_far keeps h))) λ next has.
    lines_said (number + 1) next lines (so_far ++ told_line words) whole has.0 has.1
    (append_assoc so_far (told_line words) (told_in lines) ∙ ap (λ l. so_far ++ l) (sym (told_first words (told_in lines) (not (is_skipped words)))) ∙ same)

-- if no byte is odd, every byte is plain
none_odd : (column : ℕ) (bytes : List ℕ) → odd_column_from column bytes ≡ None → list_all is_plain_byte bytes ≡ true
none_odd column [] none = refl
none_odd column (b ∷ bytes) none = go (is_plain b) refl none (λ none. none_odd (column + 1) bytes none)
  where
    go : (t : Bool) → is_plain b ≡ t → (if t then odd_column_from (column + 1) bytes else Some column) ≡ None → (odd_column_from (column + 1) bytes ≡ None → list_all is_plain_byte bytes ≡ true)
        → list_all is_plain_byte (b ∷ bytes) ≡ true
    go true e none others = and_from (is_plain_byte b) (list_all is_plain_byte bytes) e (others none)
    go false e none others = let f : ⊥ = cc in absurd f

-- a line without a fault of its bytes is plain and short enough
pub line_plain : (line : TextLine) → IfOk (plain (line_fault line)) (λ done. is_plain_line line.bytes ≡ true)
line_plain line = go (nat_lt 200 (length line.bytes)) refl
  where
    byte : (o : Option ℕ) → odd_column_from 1 line.bytes ≡ o → nat_le (length line.bytes) 200 ≡ true → IfOk (plain (byte_fault line.number o)) (λ done. is_plain_line line.bytes ≡ true)
    byte None e short = and_from (nat_le (length line.bytes) 200) (list_all is_plain_byte line.bytes) short (none_odd 1 line.bytes e)
    byte (Some column) e short = tt

    go : (t : Bool) → nat_lt 200 (length line.bytes) ≡ t
        → IfOk (plain (if t then Some (faults.LineLong line.number 201) else byte_fault line.number (odd_column_from 1 line.bytes))) (λ done. is_plain_line line.bytes ≡ true)
    go true e = tt
    go false e = let short : nat_le (length line.bytes) 200 ≡ true = grind (arith, nat_tests) in byte (odd_column_from 1 line.bytes) refl short

-- all lines of which there is a draft are plain and short enough
pub lines_plain : (number : ℕ) (draft : Draft) (lines : List (List ℕ)) → IfOk (after_lines draft (numbered number lines)) (λ last. list_all is_plain_line lines ≡ true)
lines_plain number draft [] = refl
lines_plain number draft (bytes ∷ lines) =
    let line : TextLine = record { number = number; bytes = bytes } in
    then_has (at_line number (after_line draft line)) _ (λ next. is_plain_line bytes ≡ true) (λ last. list_all is_plain_line (bytes ∷ lines) ≡ true)
    (at_line_has number (after_line draft line) (λ next. is_plain_line bytes ≡ true)
    (then_has (plain (line_fault line)) (λ done. after_words draft (words_of bytes)) (λ done. is_plain_line bytes ≡ true) (λ next. is_plain_line bytes ≡ true) (line_plain line) λ done one. anything (after_words draft (words_of bytes)) one)) λ next one.
    follows (after_lines next (numbered (number + 1) lines)) (λ last. list_all is_plain_line lines ≡ true) (λ last. list_all is_plain_line (bytes ∷ lines) ≡ true) (lines_plain (number + 1) next lines) λ last others.
    and_from (is_plain_line bytes) (list_all is_plain_line lines) one others
  where
    anything : {A E : Type 0} {C : Type 0} (r : Result A E) → C → IfOk r (λ x. C)
    anything (Ok x) h = h
    anything (Err e) h = tt

-- the text that lines spell is what they tell
text_said : (lines : List (List ℕ)) → IfOk (text_in lines) (λ text. (list_all is_plain_line lines ≡ true) × SaysText (told_in lines) text)
text_said lines =
    then_has (after_lines (draft_at Second Start) (numbered 1 lines)) _ (λ last. (list_all is_plain_line lines ≡ true) × SaidIn (told_in lines) last) (λ text. (list_all is_plain_line lines ≡ true) × SaysText (told_in lines) text)
    (both (after_lines (draft_at Second Start) (numbered 1 lines)) (λ last. list_all is_plain_line lines ≡ true) (SaidIn (told_in lines)) (lines_plain 1 (draft_at Second Start) lines) (lines_said 1 (draft_at Second Start) lines [] (told_in lines) (nothing_declared Second) nothing_said refl)) λ last has.
    at_line_has (length lines + 1) (finished last) (λ text. (list_all is_plain_line lines ≡ true) × SaysText (told_in lines) text)
    (follows (finished last) (SaysText (told_in lines)) (λ text. (list_all is_plain_line lines ≡ true) × SaysText (told_in lines) text) (finished_said last (told_in lines) has.1) λ text says. (has.0, says))

-- if every byte is plain, none is odd
all_plain : (column : ℕ) (bytes : List ℕ) → list_all is_plain_byte bytes ≡ true → odd_column_from column bytes ≡ None
all_plain column [] all = refl
all_plain column (b ∷ bytes) all =
    let parts = and_parts (is_plain_byte b) (list_all is_plain_byte bytes) all in
    let first : is_plain b ≡ true = parts.0 in
    rw first (all_plain (column + 1) bytes parts.1)

pub no_fault : (number : ℕ) (bytes : List ℕ) → is_plain_line bytes ≡ true → line_fault (record { number = number; bytes = bytes }) ≡ None
no_fault number bytes is =
    let parts = and_parts (nat_le (length bytes) 200) (list_all is_plain_byte bytes) is in
    rw (le-ltb 200 (length bytes) (leb-true (length bytes) 200 parts.0), all_plain 1 bytes parts.1) refl

-- a line and those after it
line_read : (words : List (List ℕ)) (told : Lines) (draft last : Draft) (number : ℕ) (next : Draft → Result Draft LineFault)
    → after_spelled draft (cond (not (is_skipped words)) (words ∷ told) told) ≡ Ok last → ((d : Draft) → after_spelled d told ≡ Ok last → next d ≡ Ok last)
    → (at_line number (after_words draft words) >>= next) ≡ Ok last
line_read [] told draft last number next read others = others draft read
line_read (word ∷ rest) told draft last number next read others = go (begins_with_hash word) refl read
  where
    taken : (w : Result Draft ℕ) → (w >>= λ d. after_spelled d told) ≡ Ok last → (at_line number w >>= next) ≡ Ok last
    taken (Ok d) read = others d read
    taken (Err e) read = let f : ⊥ = cc in absurd f

    go : (t : Bool) → begins_with_hash word ≡ t → after_spelled draft (cond (not t) ((word ∷ rest) ∷ told) told) ≡ Ok last → (at_line number (after_words draft (word ∷ rest)) >>= next) ≡ Ok last
    go true e read = rw (same_comment word ∙ e) (others draft read)
    go false e read = taken (after_words draft (word ∷ rest)) read

-- what plain lines tell gives the draft that they give
pub lines_read : (number : ℕ) (lines : List (List ℕ)) (draft last : Draft) → list_all is_plain_line lines ≡ true → after_spelled draft (told_in lines) ≡ Ok last
    → after_lines draft (numbered number lines) ≡ Ok last
lines_read number [] draft last are read = let same : draft ≡ last = cc in rw same refl
lines_read number (bytes ∷ lines) draft last are read =
    let parts = and_parts (is_plain_line bytes) (list_all is_plain_line lines) are in
    rw (no_fault number bytes parts.0)
    (line_read (words_of bytes) (told_in lines) draft last number (λ d. after_lines d (numbered (number + 1) lines)) read (λ d read. lines_read (number + 1) lines d last parts.1 read))

text_read_from : (lines : List (List ℕ)) (said : Lines) (text : Text) → list_all is_plain_line lines ≡ true → told_in lines ≡ said → GivesText text said → text_in lines ≡ Ok text
text_read_from lines said text are same gives = text_from lines gives.draft text (lines_read 1 lines (draft_at Second Start) gives.draft are (ap (after_spelled (draft_at Second Start)) same ∙ gives.read)) gives.done

small_buckets : (buckets : ℕ) → buckets ≤ 64 → is_number buckets ≡ true
small_buckets buckets few = lt-ltb buckets (2 ^ 64) (omega (arith, few))

-- a version line and a `use` line give the text that is named
named_gives : (version : Version) (shipped : ShippedText) → IsShipped shipped → GivesText (shipped_text shipped) (spelled_version version ∷ spelled_use shipped ∷ [])
named_gives First TheList may = record { draft = record (draft_at First Opening) { section = Shipped; text = shipped_text TheList }; read = refl; done = refl }
named_gives Second TheList may = record { draft = record (draft_at Second Opening) { section = Shipped; text = shipped_text TheList }; read = refl; done = refl }
named_gives First (TheSet buckets) may = record {
  draft = record (draft_at First Opening) { section = Shipped; text = shipped_text (TheSet buckets) };
  read = rw (number_read buckets (small_buckets buckets may.1), lt-ltb 0 buckets may.0, le-leb buckets 64 may.1) refl;
  done = refl;
}
named_gives Second (TheSet buckets) may = record {
  draft = record (draft_at Second Opening) { section = Shipped; text = shipped_text (TheSet buckets) };
  read = rw (number_read buckets (small_buckets buckets may.1), lt-ltb 0 buckets may.0, le-leb buckets 64 may.1) refl;
  done = refl;
}
named_gives First TheQueue may = record { draft = record (draft_at First Opening) { section = Shipped; text = shipped_text TheQueue }; read = refl; done = refl }
named_gives Second TheQueue may = record { draft = record (draft_at Second Opening) { section = Shipped; text = shipped_text TheQueue }; read = refl; done = refl }

read_from : (bytes : List ℕ) (text : Text) → ArePlain bytes → IsWithinLimits text → SaysText (told bytes) text → Grammar bytes text
read_from bytes text are within says =
    ⊎_elim
    (λ spells. text_read_from (lines_of bytes) (spelled_by spells.0 text) text are spells.2 (spelling_gives spells.0 text (text_is spells.0 text spells.1 within)))
    (λ names. rw names.4 (text_read_from (lines_of bytes) (spelled_version names.0 ∷ spelled_use names.1 ∷ []) (shipped_text names.1) are names.3 (named_gives names.0 names.1 names.2)))
    says

pub texts_are_said : TextsAreSaid
texts_are_said bytes text = (
  λ stands.
      let has = IfOk-at_ok (λ text. (list_all is_plain_line (lines_of bytes) ≡ true) × SaysText (told bytes) text) stands (text_said (lines_of bytes)) in
      (has.0, texts_are_within bytes text stands, has.1),
  λ has. read_from bytes text has.0 has.1 has.2,
)
