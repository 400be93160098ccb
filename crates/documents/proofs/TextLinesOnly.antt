-- A text's lines in a document of nothing else: none of them ends the text early, and after a shipped one all are skipped.
use Rattle.std.specs.Prelude.{◌≡◌, ℕ, zero, suc, Bool, true, false, ◌||◌, List, [], ◌∷◌, Some, None, Result, Ok, Err, codes, if◌then◌else◌}
use Rattle.std.specs.Str.{bytes_eq}
use Rattle.std.proofs.Common.{refl, ap, sym, ◌∙◌, ⊎_elim}
use Rattle.std.proofs.lemmas.Bool.{or_cases}
use Rattle.std.proofs.lemmas.Slice.Eq.{bytes_eq-Decides}
use Rattle.oa_text.specs.Lines.{TextLine}
use Rattle.oa_text.specs.Tokens.{words_of, line_fault}
use Rattle.norm_lang.specs.declared.text.Text.{Text}
use Rattle.norm_lang.specs.declared.text.Version.{Version}
use Rattle.norm_lang.specs.declared.text.Version.TheVariants.{First, Second}
use Rattle.norm_lang.specs.Faults.{form_fault, ◌>>=◌, at_line}
use Rattle.norm_lang.specs.Declarations.{use_line}
use Rattle.norm_lang.specs.Grammar.{Section, Opening, Shipped, Draft, first_declared, in_section, in_place, is_comment, plain, after_words as words_drafted, after_line as line_drafted, after_lines as lines_drafted}
use Rattle.line_words.specs.Lines.{first_word}
use Rattle.norm_parser.specs.FrontRead.{front_of, line_word, ends_text, names_text, text_lines, after_text}
use Rattle.documents.specs.DocumentRead.{Tail, after_words, after_line, after_lines}

-- what is read, or this
abbrev pub given : {A E : Type 0} → A → Result A E → A
given other (Ok x) = x
given other (Err fault) = other

abbrev form : Result Draft ℕ
form = Err form_fault

-- what holds of the five words with which a document goes on holds of each word that ends a text
five : (P : List ℕ → Type 0) → P (codes "slots") → P (codes "phases") → P (codes "fuel") → P (codes "script") → P (codes "schedule")
    → (word : List ℕ) → ends_text word ≡ true → P word
five P slots phases fuel script schedule word ends =
    ⊎_elim (at (codes "slots") slots) (λ first. ⊎_elim (at (codes "phases") phases) (λ second. ⊎_elim (at (codes "fuel") fuel) (λ third.
    ⊎_elim (at (codes "script") script) (at (codes "schedule") schedule)
    (or_cases (is (codes "script")) (is (codes "schedule")) third))
    (or_cases (is (codes "fuel")) (is (codes "script") || is (codes "schedule")) second))
    (or_cases (is (codes "phases")) (is (codes "fuel") || (is (codes "script") || is (codes "schedule"))) first))
    (or_cases (is (codes "slots")) (is (codes "phases") || (is (codes "fuel") || (is (codes "script") || is (codes "schedule")))) ends)
  where
    is : List ℕ → Bool
    is wanted = bytes_eq word wanted

    at : (wanted : List ℕ) → P wanted → bytes_eq word wanted ≡ true → P word
    at wanted holds same = let e : word ≡ wanted = (bytes_eq-Decides word wanted).0 same in rw e holds

-- the first declaration begins with none of these words, in either version
first_refused : (version : Version) (draft : Draft) (rest : List (List ℕ)) (word : List ℕ) → ends_text word ≡ true
    → (if bytes_eq word (codes "use") then (use_line rest >>= λ text. Ok (record draft { section = Shipped; text = text })) else first_declared version draft word rest) ≡ form
first_refused First draft rest =
    five (λ word. (if bytes_eq word (codes "use") then (use_line rest >>= λ text. Ok (record draft { section = Shipped; text = text })) else first_declared First draft word rest) ≡ form) refl refl refl refl refl
first_refused Second draft rest =
    five (λ word. (if bytes_eq word (codes "use") then (use_line rest >>= λ text. Ok (record draft { section = Shipped; text = text })) else first_declared Second draft word rest) ≡ form) refl refl refl refl refl

-- wherever a text's line stands, it begins with none of these words
refused : (section : Section) (draft : Draft) (rest : List (List ℕ)) (word : List ℕ) → ends_text word ≡ true → in_section section draft word rest ≡ form
refused Opening draft rest = first_refused draft.version draft rest
refused section draft rest = five (λ word. in_section section draft word rest ≡ form) refl refl refl refl refl

refused_at : (left : ℕ) (draft : Draft) (rest : List (List ℕ)) (word : List ℕ) → ends_text word ≡ true → in_place left draft word rest ≡ form
refused_at zero draft rest = refused draft.section draft rest
refused_at (suc left) draft rest = five (λ word. in_place (suc left) draft word rest ≡ form) refl refl refl refl refl

no_comment : (word : List ℕ) → ends_text word ≡ true → is_comment word ≡ false
no_comment = five (λ word. is_comment word ≡ false) refl refl refl refl refl

-- a line that would end the text is none of it
no_ending : (draft next : Draft) (line : TextLine) → ends_text (line_word line) ≡ true → line_drafted draft line ≡ Ok next → ⊥
no_ending draft next line ends read = go (plain (line_fault line)) (words_of line.bytes) ends read
  where
    go : (r : Result (Unit {0}) ℕ) (words : List (List ℕ)) → ends_text (front_of words) ≡ true → (r >>= λ done. words_drafted draft words) ≡ Ok next → ⊥
    go (Err fault) words ends read = cc
    go (Ok done) [] ends read = let e : false ≡ true = ends in cc
    go (Ok done) (word ∷ rest) ends read =
        let step : words_drafted draft (word ∷ rest) ≡ form = rw (no_comment word ends) (refused_at draft.left draft rest word ends) in
        let e : form ≡ Ok next = sym step ∙ read in
        cc

-- nothing of a text may follow
abbrev pub IsWhole : Draft → Type 0
IsWhole draft = (draft.section ≡ Shipped) × (draft.left ≡ 0)

impossible : {A : Type 0} (next : Draft) → form ≡ Ok next → A
impossible next e = absurd (let f : ⊥ = cc in f)

used : (section : Section) (draft next : Draft) (rest : List (List ℕ)) → draft.left ≡ 0 → in_section section draft (codes "use") rest ≡ Ok next → IsWhole next
used Opening draft next rest left read = go (use_line rest) read
  where
    go : (r : Result Text ℕ) → (r >>= λ text. Ok (record draft { section = Shipped; text = text })) ≡ Ok next → IsWhole next
    go (Ok text) read = let e : record draft { section = Shipped; text = text } ≡ next = ap (given next) read in rw (← e) (refl, left)
    go (Err fault) read = absurd (let f : ⊥ = cc in f)
used _ draft next rest left read = impossible next read

used_at : (left : ℕ) (draft next : Draft) (rest : List (List ℕ)) → draft.left ≡ left → in_place left draft (codes "use") rest ≡ Ok next → IsWhole next
used_at zero draft next rest same read = used draft.section draft next rest same read
used_at (suc left) draft next rest same read = impossible next read

-- after a line that names a shipped text it is whole
named_whole : (draft next : Draft) (line : TextLine) → names_text (line_word line) ≡ true → line_drafted draft line ≡ Ok next → IsWhole next
named_whole draft next line named read = go (plain (line_fault line)) (words_of line.bytes) named read
  where
    go : (r : Result (Unit {0}) ℕ) (words : List (List ℕ)) → names_text (front_of words) ≡ true → (r >>= λ done. words_drafted draft words) ≡ Ok next → IsWhole next
    go (Err fault) words named read = absurd (let f : ⊥ = cc in f)
    go (Ok done) [] named read = let e : false ≡ true = named in absurd (let f : ⊥ = cc in f)
    go (Ok done) (word ∷ rest) named read =
        let e : word ≡ codes "use" = (bytes_eq-Decides word (codes "use")).0 named in
        used_at draft.left draft next rest refl (rw e at read)

skips_words : (draft next : Draft) (number : ℕ) (tail : Tail) (word : List ℕ) (rest : List (List ℕ)) (skipped : Bool) → IsWhole draft
    → (if skipped then Ok draft else in_place draft.left draft word rest) ≡ Ok next
    → (next ≡ draft) × (after_words tail number (if skipped then None else Some (word, rest)) ≡ Ok tail)
skips_words draft next number tail word rest true whole read = (sym (ap (given draft) read), refl)
skips_words draft next number tail word rest false whole read = impossible next (rw (whole.1, whole.0) at read)

-- after a whole text a line is skipped
skips : (draft next : Draft) (line : TextLine) (tail : Tail) → IsWhole draft → line_drafted draft line ≡ Ok next → (next ≡ draft) × (after_line tail line ≡ Ok tail)
skips draft next line tail whole read = go (plain (line_fault line)) (words_of line.bytes) read
  where
    go : (r : Result (Unit {0}) ℕ) (words : List (List ℕ)) → (r >>= λ done. words_drafted draft words) ≡ Ok next
        → (next ≡ draft) × (((r >>= λ done. Ok words) >>= λ found. after_words tail line.number (first_word found)) ≡ Ok tail)
    go (Err fault) words read = absurd (let f : ⊥ = cc in f)
    go (Ok done) [] read = (sym (ap (given draft) read), refl)
    go (Ok done) (word ∷ rest) read = skips_words draft next line.number tail word rest (is_comment word) whole read

skips_all : (draft last : Draft) (tail : Tail) (lines : List TextLine) → IsWhole draft → lines_drafted draft lines ≡ Ok last
    → (last ≡ draft) × (after_lines tail lines ≡ Ok tail)
skips_all draft last tail [] whole read = (sym (ap (given draft) read), refl)
skips_all draft last tail (line ∷ lines) whole read = go (line_drafted draft line) refl read (skips_all draft last tail lines whole)
  where
    go : (r : Result Draft ℕ) → line_drafted draft line ≡ r → (at_line line.number r >>= λ next. lines_drafted next lines) ≡ Ok last
        → (lines_drafted draft lines ≡ Ok last → (last ≡ draft) × (after_lines tail lines ≡ Ok tail))
        → (last ≡ draft) × ((at_line line.number (after_line tail line) >>= λ next. after_lines next lines) ≡ Ok tail)
    go (Err fault) same read others = absurd (let f : ⊥ = cc in f)
    go (Ok next) same read others =
        let skipped = skips draft next line tail whole same in
        let behind = others (rw skipped.0 at read) in
        (behind.0, rw skipped.1 behind.1)

-- the text's own lines are all that say something
pub own_lines : (tail : Tail) (draft last : Draft) (lines : List TextLine) → lines_drafted draft lines ≡ Ok last
    → (lines_drafted draft (text_lines lines) ≡ Ok last) × (after_lines tail (after_text lines) ≡ Ok tail)
own_lines tail draft last [] read = (read, refl)
own_lines tail draft last (line ∷ lines) read =
    go (ends_text (line_word line)) (names_text (line_word line)) (line_drafted draft line) refl refl refl read (λ next. own_lines tail next last lines)
  where
    go : (ended named : Bool) (r : Result Draft ℕ) → ends_text (line_word line) ≡ ended → names_text (line_word line) ≡ named → line_drafted draft line ≡ r
        → (at_line line.number r >>= λ next. lines_drafted next lines) ≡ Ok last
        → ((next : Draft) → lines_drafted next lines ≡ Ok last
        → (lines_drafted next (text_lines lines) ≡ Ok last) × (after_lines tail (after_text lines) ≡ Ok tail))
        → (lines_drafted draft (if ended then [] else (if named then line ∷ [] else line ∷ text_lines lines)) ≡ Ok last)
        × (after_lines tail (if ended then line ∷ lines else (if named then lines else after_text lines)) ≡ Ok tail)
    go ended named (Err fault) e n same read others = absurd (let f : ⊥ = cc in f)
    go true named (Ok next) e n same read others = absurd (no_ending draft next line e same)
    go false true (Ok next) e n same read others =
        let behind = skips_all next last tail lines (named_whole draft next line n same) read in
        (rw same (ap Ok (sym behind.0)), behind.1)
    go false false (Ok next) e n same read others = let own = others next read in (rw same own.0, own.1)
