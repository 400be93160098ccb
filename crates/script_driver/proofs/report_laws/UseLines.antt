-- The text of a document with a `use` line is the one that it names.
use Rattle.std.proofs.Common.{◌≡◌, ℕ, zero, suc, ◌+◌, Bool, true, false, cond, List, [], ◌∷◌, length, Some, None, Result, Ok, Err, refl, sym, ap, ◌∙◌, subst, if◌then◌else◌}
use Rattle.std.specs.Prelude.{codes, IfOk}
use Rattle.std.specs.List.{find}
use Rattle.std.proofs.lemmas.Slice.Eq.{bytes_eq-Decides}
use Rattle.oa_text.specs.Lines.{TextLine, lines_of, numbered}
use Rattle.oa_text.specs.Tokens.{words_of, line_fault}
use Rattle.norm_lang.specs.declared.text.Text.{Text}
use Rattle.norm_lang.specs.declared.text.Version.{Version}
use Rattle.norm_lang.specs.Faults.{LineFault, form_fault, ◌>>=◌, at_line}
use Rattle.norm_lang.specs.Declarations.{use_line}
use Rattle.norm_lang.specs.Grammar.{Section, Opening, Shipped, Draft, draft_at, plain, finished, in_section, in_place, after_words as words_drafted, after_line as line_drafted, after_lines as lines_drafted}
use Rattle.text_laws.proofs.DeclarationsSaid.{NamesBy, use_said}
use Rattle.norm_parser.specs.FrontRead.{from_line, front_of, line_word, ends_text, names_text, text_lines, after_text, end_at, ended, front_read}
use Rattle.documents.specs.declared.document.Document.{Document}
use Rattle.documents.specs.DocumentRead.{Tail, empty_tail, after_lines, document_of}
use Rattle.script_driver.specs.report_laws.Sources.{IsNamed}
use Rattle.script_driver.specs.report_laws.UseLines.{is_use_line, UseLinesName}

-- what is read, or this
abbrev given : {A E : Type 0} → A → Result A E → A
given other (Ok x) = x
given other (Err fault) = other

-- the draft's text is the one that the words of a `use` line name, and nothing more of it may follow
record IsUsed (words : List (List ℕ)) (draft : Draft) : Type 0 where
  named : IsNamed words draft.text
  section : draft.section ≡ Shipped
  left : draft.left ≡ 0

named_by : (rest : List (List ℕ)) (text : Text) → use_line rest ≡ Ok text → IsNamed (codes "use" ∷ rest) text
named_by rest text read =
    let by : NamesBy (codes "use" ∷ rest) text = subst (λ (r : Result Text ℕ). IfOk r (NamesBy (codes "use" ∷ rest))) read (use_said rest) in
    record { shipped = by.shipped; may_be = by.may_be; spelled = by.line; same = by.named }

abbrev form : Result Draft ℕ
form = Err form_fault

impossible : {A : Type 0} (next : Draft) → form ≡ Ok next → A
impossible next e = absurd (let f : ⊥ = cc in f)

-- a line that begins with `use` may stand at a text's start alone
used : (section : Section) (draft next : Draft) (rest : List (List ℕ)) → draft.left ≡ 0 → in_section section draft (codes "use") rest ≡ Ok next → IsUsed (codes "use" ∷ rest) next
used Opening draft next rest left read = go (use_line rest) refl read
  where
    go : (r : Result Text ℕ) → use_line rest ≡ r → (r >>= λ text. Ok (record draft { section = Shipped; text = text })) ≡ Ok next → IsUsed (codes "use" ∷ rest) next
    go (Ok text) is read =
        let e : record draft { section = Shipped; text = text } ≡ next = ap (given next) read in
        subst (IsUsed (codes "use" ∷ rest)) e (record { named = named_by rest text is; section = refl; left = left })
    go (Err fault) is read = absurd (let f : ⊥ = cc in f)
used _ draft next rest left read = impossible next read

used_at : (left : ℕ) (draft next : Draft) (rest : List (List ℕ)) → draft.left ≡ left → in_place left draft (codes "use") rest ≡ Ok next → IsUsed (codes "use" ∷ rest) next
used_at zero draft next rest same read = used draft.section draft next rest same read
used_at (suc left) draft next rest same read = impossible next read

line_used : (draft next : Draft) (line : TextLine) → names_text (line_word line) ≡ true → line_drafted draft line ≡ Ok next → IsUsed (words_of line.bytes) next
line_used draft next line named read = go (plain (line_fault line)) (words_of line.bytes) named read
  where
    go : (r : Result (Unit {0}) ℕ) (words : List (List ℕ)) → names_text (front_of words) ≡ true → (r >>= λ done. words_drafted draft words) ≡ Ok next → IsUsed words next
    go (Err fault) words named read = absurd (let f : ⊥ = cc in f)
    go (Ok done) [] named read = let e : false ≡ true = named in absurd (let f : ⊥ = cc in f)
    go (Ok done) (word ∷ rest) named read =
        let e : word ≡ codes "use" = (bytes_eq-Decides word (codes "use")).0 named in
        subst (λ (word : List ℕ). IsUsed (word ∷ rest) next) (sym e) (used_at draft.left draft next rest refl (rw e at read))

-- a text's lines end at such a line
lines_used : (draft last : Draft) (lines : List TextLine) (used : TextLine) → lines_drafted draft (text_lines lines) ≡ Ok last → find is_use_line (text_lines lines) ≡ Some used → IsUsed (words_of used.bytes) last
lines_used draft last [] used read some = absurd (let f : None ≡ Some used = some in cc)
lines_used draft last (line ∷ lines) used read some =
    go (ends_text (line_word line)) (names_text (line_word line)) (line_drafted draft line) refl refl read some (λ next. lines_used next last lines used)
  where
    go : (ended named : Bool) (r : Result Draft ℕ) → names_text (line_word line) ≡ named → line_drafted draft line ≡ r
        → lines_drafted draft (if ended then [] else (if named then line ∷ [] else line ∷ text_lines lines)) ≡ Ok last
        → find is_use_line (if ended then [] else (if named then line ∷ [] else line ∷ text_lines lines)) ≡ Some used
        → ((next : Draft) → lines_drafted next (text_lines lines) ≡ Ok last → find is_use_line (text_lines lines) ≡ Some used → IsUsed (words_of used.bytes) last)
        → IsUsed (words_of used.bytes) last
    go true named r n same read some others = absurd (let f : None ≡ Some used = some in cc)
    go false true (Ok next) n same read some others =
        let e : Ok next ≡ Ok last = subst (λ (s : Result Draft ℕ). (at_line line.number s >>= λ next. lines_drafted next []) ≡ Ok last) same read in
        let found : Some line ≡ Some used = subst (λ (b : Bool). cond b (Some line) None ≡ Some used) n some in
        let this : line ≡ used = cc in
        subst (λ (line : TextLine). IsUsed (words_of line.bytes) last) this (line_used draft last line n (same ∙ ap Ok (ap (given last) e)))
    go false true (Err fault) n same read some others =
        let e : at_line {A = Draft} line.number (Err fault) ≡ Ok last = subst (λ (s : Result Draft ℕ). (at_line line.number s >>= λ next. lines_drafted next []) ≡ Ok last) same read in
        absurd (let f : ⊥ = cc in f)
    go false false r n same read some others = onward (line_drafted draft line) read where
      rest_some : find is_use_line (line ∷ text_lines lines) ≡ Some used → find is_use_line (text_lines lines) ≡ Some used
      rest_some some = subst (λ (b : Bool). cond b (Some line) (find is_use_line (text_lines lines)) ≡ Some used) n some

      onward : (s : Result Draft ℕ) → (at_line line.number s >>= λ next. lines_drafted next (text_lines lines)) ≡ Ok last → IsUsed (words_of used.bytes) last
      onward (Ok next) read = others next read (rest_some some)
      onward (Err fault) read = absurd (let f : ⊥ = cc in f)

-- ---- documents

finished_used : (words : List (List ℕ)) (draft : Draft) → IsUsed words draft → finished draft ≡ Ok draft.text
finished_used words draft u = rw (u.left, u.section) refl

abbrev with_end : Draft → LineFault → Result (Draft × LineFault) LineFault
with_end draft end = Ok (draft, end)

abbrev with_tail : Text → Result Tail LineFault → Result Document LineFault
with_tail text tail = tail >>= λ tail. Ok (document_of text tail)

abbrev after_front : List ℕ → Version → Text × ℕ → Result Document LineFault
after_front bytes version front = with_tail front.0 (after_lines (empty_tail version front.0.kinds) (from_line front.1 (numbered 1 (lines_of bytes))))

abbrev after_start : List ℕ → ℕ × Version → Result Document LineFault
after_start bytes start = front_read start.1 bytes start.0 >>= after_front bytes start.1

text_is : (text : Text) (document : Document) (tail : Result Tail LineFault) → with_tail text tail ≡ Ok document → document.text ≡ text
text_is text document (Ok tail) read = let e : document_of text tail ≡ document = ap (given document) read in ap (λ (d : Document). d.text) (sym e)
text_is text document (Err fault) read = absurd (let f : ⊥ = cc in f)

front_used : (bytes : List ℕ) (version : Version) (lines : List TextLine) (used : TextLine) (past : ℕ) (document : Document) (r : Result Draft LineFault) → lines_drafted (draft_at version Opening) (text_lines lines) ≡ r
    → (((r >>= λ draft. with_end draft (end_at (after_text lines) past)) >>= λ front. ended (finished front.0) front.1) >>= after_front bytes version) ≡ Ok document
    → find is_use_line (text_lines lines) ≡ Some used → IsNamed (words_of used.bytes) document.text
front_used bytes version lines used past document (Err fault) is read some = absurd (let f : ⊥ = cc in f)
front_used bytes version lines used past document (Ok last) is read some =
    let u = lines_used (draft_at version Opening) last lines used is some in
    let end = end_at (after_text lines) past in
    let goes : (ended (Ok last.text) end >>= after_front bytes version) ≡ Ok document = subst (λ (r : Result Text ℕ). (ended r end >>= after_front bytes version) ≡ Ok document) (finished_used (words_of used.bytes) last u) read in
    subst (IsNamed (words_of used.bytes)) (sym (text_is last.text document (after_lines (empty_tail version last.text.kinds) (from_line end.line (numbered 1 (lines_of bytes)))) goes)) u.named

pub use_lines_name : UseLinesName
use_lines_name bytes document read has =
    let lines = from_line has.start (numbered 1 (lines_of bytes)) in
    let goes : after_start bytes (has.start, has.version) ≡ Ok document = sym (ap (λ (r : Result (ℕ × Version) LineFault). r >>= after_start bytes) has.begins) ∙ read in
    front_used bytes has.version lines has.line (length (lines_of bytes) + 1) document (lines_drafted (draft_at has.version Opening) (text_lines lines)) refl goes has.first
