-- A text is a document with the default settings, no script and no schedule.
use Rattle.std.specs.Prelude.{◌≡◌, ℕ, ◌+◌, ◌<◌, ◌≤◌, Bool, true, false, List, [], ◌∷◌, length, Option, Some, None, Result, Ok, Err, codes, if◌then◌else◌}
use Rattle.std.specs.Str.{bytes_eq}
use Rattle.std.proofs.Common.{refl, ap, sym, ◌∙◌, ⊎_elim, ◌⊎◌, inl, inr, arith}
use Rattle.std.proofs.lemmas.Bool.{cases_lt, le-ltb}
use Rattle.oa_text.specs.Lines.{TextLine, lines_of, numbered}
use Rattle.oa_text.specs.Tokens.{words_of, line_fault}
use Rattle.norm_lang.specs.declared.text.Text.{Text}
use Rattle.norm_lang.specs.declared.text.Version.{Version}
use Rattle.norm_lang.specs.declared.text.Version.TheVariants.{Second}
use Rattle.norm_lang.specs.Faults.{LineFault, form_fault, ◌>>=◌, at_line}
use Rattle.norm_lang.specs.Declarations.{version_line}
use Rattle.norm_lang.specs.Grammar.{Start, Opening, Draft, draft_at, is_comment, plain, finished, in_start, after_words as words_drafted, after_line as line_drafted, after_lines as lines_drafted}
use Rattle.line_words.specs.Lines.{first_word}
use Rattle.norm_parser.specs.FrontRead.{from_line, line_word, ends_text, names_text, after_text, end_at}
use Rattle.norm_parser.specs.Version.{version_said, line_version, after_version}
use Rattle.norm_parser.proofs.Fronts.{earlier}
use Rattle.documents.specs.DocumentRead.{empty_tail, bare_document, document_read}
use Rattle.documents.specs.DocumentLaws.{TextsAreDocuments}
use Rattle.documents.proofs.TextLinesOnly.{given, own_lines}

-- lines that all come later
all_later : (n start : ℕ) (lines : List (List ℕ)) → start ≤ n → from_line start (numbered n lines) ≡ numbered n lines
all_later n start [] le = refl
all_later n start (line ∷ lines) le =
    rw (le-ltb n start le) (ap (λ (rest : List TextLine). record { number = n; bytes = line } ∷ rest) (all_later (n + 1) start lines (omega arith)))

-- the number of the line where others end
abbrev end_line : List TextLine → ℕ → ℕ
end_line behind past = (end_at behind past).line

first_number : (n past : ℕ) (lines : List (List ℕ)) → n + length lines ≡ past → end_line (numbered n lines) past ≡ n
first_number n past [] count = omega (arith, count)
first_number n past (line ∷ lines) count = refl

-- the lines from that number on are those after the others, of which the first has this number at least
abbrev Ends : ℕ → ℕ → List TextLine → List TextLine → Type 0
Ends n past lines behind = (n ≤ end_line behind past) × (from_line (end_line behind past) lines ≡ behind)

-- one line more at the start
one_before : (n past : ℕ) (line : List ℕ) (lines behind : List TextLine) → Ends (n + 1) past lines behind → Ends n past (record { number = n; bytes = line } ∷ lines) behind
one_before n past line lines behind ends = (omega (arith, ends.0), earlier (end_line behind past) (record { number = n; bytes = line }) lines (omega (arith, ends.0)) ∙ ends.1)

ends_all : (n past : ℕ) (lines : List (List ℕ)) → n + length lines ≡ past → Ends n past (numbered n lines) (numbered n lines)
ends_all n past lines count =
    let first = first_number n past lines count in
    rw first (omega arith, all_later n n lines (omega arith))

ends_behind : (n past : ℕ) (lines : List (List ℕ)) → n + length lines ≡ past → Ends n past (numbered n lines) (after_text (numbered n lines))
ends_behind n past [] count = (omega (arith, count), refl)
ends_behind n past (line ∷ lines) count =
    go (ends_text (line_word (record { number = n; bytes = line }))) (names_text (line_word (record { number = n; bytes = line }))) (ends_behind (n + 1) past lines (omega (arith, count)))
  where
    go : (ended named : Bool) → Ends (n + 1) past (numbered (n + 1) lines) (after_text (numbered (n + 1) lines))
        → Ends n past (numbered n (line ∷ lines)) (if ended then record { number = n; bytes = line } ∷ numbered (n + 1) lines else (if named then numbered (n + 1) lines else after_text (numbered (n + 1) lines)))
    go true named rest = ends_all n past (line ∷ lines) count
    go false true rest = one_before n past line (numbered (n + 1) lines) (numbered (n + 1) lines) (ends_all (n + 1) past lines (omega (arith, count)))
    go false false rest = one_before n past line (numbered (n + 1) lines) (after_text (numbered (n + 1) lines)) rest

ends_same : (n past : ℕ) (lines behind others : List TextLine) → behind ≡ others → Ends n past lines others → Ends n past lines behind
ends_same n past lines behind others same ends = rw same ends

ends_from : (start n past : ℕ) (lines : List (List ℕ)) → n + length lines ≡ past → Ends n past (numbered n lines) (after_text (from_line start (numbered n lines)))
ends_from start n past [] count = (omega (arith, count), refl)
ends_from start n past (line ∷ lines) count = go (ends_from start (n + 1) past lines (omega (arith, count)))
  where
    left : List TextLine
    left = from_line start (numbered n (line ∷ lines))

    go : Ends (n + 1) past (numbered (n + 1) lines) (after_text (from_line start (numbered (n + 1) lines))) → Ends n past (numbered n (line ∷ lines)) (after_text left)
    go rest =
        ⊎_elim
        (λ before.
        ends_same n past (numbered n (line ∷ lines)) (after_text left) (after_text (from_line start (numbered (n + 1) lines)))
        (ap after_text (earlier start (record { number = n; bytes = line }) (numbered (n + 1) lines) before))
        (one_before n past line (numbered (n + 1) lines) (after_text (from_line start (numbered (n + 1) lines))) rest))
        (λ from.
        ends_same n past (numbered n (line ∷ lines)) (after_text left) (after_text (numbered n (line ∷ lines))) (ap after_text (all_later n start (line ∷ lines) from))
        (ends_behind n past (line ∷ lines) count))
        (cases_lt n start)

-- before the version line a line is skipped, or is the version line
abbrev Opens : Draft → Result (Option Version) ℕ → Type 0
Opens next said = ((next ≡ draft_at Second Start) × (said ≡ Ok None)) ⊎ ((version : Version) × (next ≡ draft_at version Opening) × (said ≡ Ok (Some version)))

opens_named : (next : Draft) (named : Bool) (read : Result Version ℕ)
    → (if named then (read >>= λ version. Ok (draft_at version Opening)) else Err form_fault) ≡ Ok next
    → (version : Version) × (next ≡ draft_at version Opening) × ((if named then (read >>= λ version. Ok (Some version)) else Err form_fault) ≡ Ok (Some version))
opens_named next true (Ok version) same = (version, sym (ap (given next) same), refl)
opens_named next _ _ same = absurd (let f : ⊥ = cc in f)

opens_words : (next : Draft) (word : List ℕ) (rest : List (List ℕ)) (skipped : Bool)
    → (if skipped then Ok (draft_at Second Start) else in_start (draft_at Second Start) word rest) ≡ Ok next
    → Opens next (version_said (codes "oa") (if skipped then None else Some (word, rest)))
opens_words next word rest true read = inl (sym (ap (given next) read), refl)
opens_words next word rest false read = inr (opens_named next (bytes_eq word (codes "oa")) (version_line rest) read)

opens : (next : Draft) (line : TextLine) → line_drafted (draft_at Second Start) line ≡ Ok next → Opens next (line_version (codes "oa") line)
opens next line read = go (plain (line_fault line)) (words_of line.bytes) read
  where
    go : (r : Result (Unit {0}) ℕ) (words : List (List ℕ)) → (r >>= λ done. words_drafted (draft_at Second Start) words) ≡ Ok next
        → Opens next ((r >>= λ done. Ok words) >>= λ found. version_said (codes "oa") (first_word found))
    go (Err fault) words read = absurd (let f : ⊥ = cc in f)
    go (Ok done) [] read = inl (sym (ap (given next) read), refl)
    go (Ok done) (word ∷ rest) read = opens_words next word rest (is_comment word) read

-- the version line is found, and a text of that version is read from the line after it
record IsFound (n past : ℕ) (lines : List (List ℕ)) (last : Draft) : Type 0 where
  next : ℕ
  version : Version
  later : n < next
  found : after_version (codes "oa") past (numbered n lines) ≡ Ok (next, version)
  rest : lines_drafted (draft_at version Opening) (from_line next (numbered n lines)) ≡ Ok last

finds : (n past : ℕ) (lines : List (List ℕ)) (last : Draft) (text : Text) → lines_drafted (draft_at Second Start) (numbered n lines) ≡ Ok last → finished last ≡ Ok text
    → IsFound n past lines last
finds n past [] last text read ended =
    let first : last ≡ draft_at Second Start = sym (ap (given last) read) in
    let e : finished (draft_at Second Start) ≡ Ok text = rw first at ended in
    absurd (let f : ⊥ = cc in f)
finds n past (line ∷ lines) last text read ended =
    go (line_drafted (draft_at Second Start) (record { number = n; bytes = line })) refl read (λ read. finds (n + 1) past lines last text read ended)
  where
    here : TextLine
    here = record { number = n; bytes = line }

    go : (r : Result Draft ℕ) → line_drafted (draft_at Second Start) here ≡ r → (at_line n r >>= λ next. lines_drafted next (numbered (n + 1) lines)) ≡ Ok last
        → (lines_drafted (draft_at Second Start) (numbered (n + 1) lines) ≡ Ok last → IsFound (n + 1) past lines last)
        → IsFound n past (line ∷ lines) last
    go (Err fault) same read others = absurd (let f : ⊥ = cc in f)
    go (Ok next) same read others =
        ⊎_elim
        (λ skipped.
        let rest = others (rw skipped.0 at read) in
        record {
          next = rest.next;
          version = rest.version;
          later = omega (arith, rest.later);
          found = rw skipped.1 rest.found;
          rest = rw (earlier rest.next here (numbered (n + 1) lines) (omega (arith, rest.later))) rest.rest;
        })
        (λ said.
        record {
          next = n + 1;
          version = said.0;
          later = omega arith;
          found = rw said.2 refl;
          rest = rw (earlier (n + 1) here (numbered (n + 1) lines) (omega arith), all_later (n + 1) (n + 1) lines (omega arith)) (rw said.1 at read);
        })
        (opens next here same)

document_whole : (bytes : List ℕ) (last : Draft) (text : Text) → lines_drafted (draft_at Second Start) (numbered 1 (lines_of bytes)) ≡ Ok last → finished last ≡ Ok text
    → document_read bytes ≡ Ok (bare_document text)
document_whole bytes last text read ended =
    let lines = lines_of bytes in
    let past = length lines + 1 in
    let start : IsFound 1 past lines last = finds 1 past lines last text read ended in
    let own = own_lines (empty_tail start.version text.kinds) (draft_at start.version Opening) last (from_line start.next (numbered 1 lines)) start.rest in
    let ends = ends_from start.next 1 past lines (omega arith) in
    rw (start.found, own.0, ended, ends.1, own.1) refl

pub texts_are_documents : TextsAreDocuments
texts_are_documents bytes text read = go (lines_drafted (draft_at Second Start) (numbered 1 (lines_of bytes))) refl read
  where
    whole : (last : Draft) (r : Result Text ℕ) → finished last ≡ r → lines_drafted (draft_at Second Start) (numbered 1 (lines_of bytes)) ≡ Ok last
        → at_line (length (lines_of bytes) + 1) r ≡ Ok text → document_read bytes ≡ Ok (bare_document text)
    whole last (Ok other) ended all read = let e : other ≡ text = ap (given other) read in document_whole bytes last text all (ended ∙ ap Ok e)
    whole last (Err fault) ended all read = absurd (let f : ⊥ = cc in f)

    go : (r : Result Draft LineFault) → lines_drafted (draft_at Second Start) (numbered 1 (lines_of bytes)) ≡ r
        → (r >>= λ draft. at_line (length (lines_of bytes) + 1) (finished draft)) ≡ Ok text → document_read bytes ≡ Ok (bare_document text)
    go (Ok last) all read = whole last (finished last) refl all read
    go (Err fault) all read = absurd (let f : ⊥ = cc in f)
