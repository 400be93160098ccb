-- What holds of a draft while a text is read.
use Rattle.std.specs.Prelude.{◌≡◌, ℕ, ◌+◌, ◌≤◌, List, [], ◌∷◌, length, Bool, true, false, Result, Ok, Err, IfOk, nat_lt, if◌then◌else◌}
use Rattle.std.proofs.Common.{refl, sym, ap, ◌∙◌, arith}
use Rattle.std.proofs.lemmas.Result.{IfOk-at_ok}
use Rattle.oa_text.specs.Lines.{TextLine, lines_of, numbered}
use Rattle.norm_lang.specs.declared.text.FieldDecl.{FieldDecl}
use Rattle.norm_lang.specs.declared.text.RootDecl.{RootDecl}
use Rattle.norm_lang.specs.Faults.{LineFault, form_fault, at_line, ◌>>=◌}
use Rattle.norm_lang.specs.declared.text.Text.{Text}
use Rattle.norm_lang.specs.declared.text.Version.{Version}
use Rattle.norm_lang.specs.declared.text.Version.TheVariants.{Second}
use Rattle.norm_lang.specs.Grammar.{Section, Draft, Start, Opening, Roots, draft_at, after_line, after_lines, finished, text_read}
use Rattle.norm_lang.specs.Limits.{IsWithinLimits, is_within_limits}
use Rattle.text_laws.proofs.DraftLimits.{Kept, Keeps, roots_within, nothing_declared, line_kept, lines_kept, finished_is}
use Rattle.text_laws.proofs.FewDeclared.{few_declared, few_promised}
use Rattle.line_words.specs.declared.fault.Stop.{Stop}
use Rattle.line_words.specs.declared.fault.Stop.TheVariants as stops
use Rattle.line_words.specs.declared.fault.ParseError.{ParseError}
use Rattle.line_words.specs.Faults.{stopped_at}
use Rattle.line_words.specs.Answered.{Stops, Fails}
use Rattle.norm_parser.specs.Cursors.{LinesLeft, all_lines, rest_of, StandsNext}
use Rattle.norm_parser.specs.FrontRead.{line_word, names_text, text_lines, after_text, end_before, end_at, front_end, head_lines, after_head, before_op, head_end, whole_in, whole_head, IsHeadWithinLimits}
use Rattle.norm_parser.specs.declared.head.Head.{Head}
use Rattle.text_laws.proofs.Readings.{demanded}

pub few_kinds : (draft : Draft) (kinds : List (List ℕ)) → Kept draft → kinds ≡ draft.text.kinds → length kinds ≤ 4
few_kinds draft kinds kept same = rw same (few_declared draft kept).kinds

pub few_fields : (draft : Draft) (fields : List FieldDecl) → Kept draft → fields ≡ draft.text.fields → length fields ≤ 16
few_fields draft fields kept same = rw same (few_declared draft kept).fields

pub few_roots : (draft : Draft) (roots : List RootDecl) → Kept draft → roots ≡ draft.text.roots → length roots ≤ 256
few_roots draft roots kept same = rw same (few_declared draft kept).roots

pub few_owners : (draft : Draft) (owners : List ℕ) → Kept draft → owners ≡ draft.owners → length owners ≤ 256
few_owners draft owners kept same = rw same (few_promised draft kept).owners_few

-- a line keeps what holds
pub kept_on : (draft next : Draft) (line : TextLine) → Kept draft → at_line line.number (after_line draft line) ≡ Ok next → Kept next
kept_on draft next line kept read = go (after_line draft line) (line_kept draft line kept) read
  where
    go : (r : Result Draft ℕ) → IfOk r Kept → at_line line.number r ≡ Ok next → Kept next
    go (Ok x) h same = let e : x ≡ next = cc in rw (← e) h
    go (Err fault) h same = absurd (let f : ⊥ = cc in f)

-- all lines from the first on, whatever holds the draft
pub lines_first : (draft first : Draft) (lines : List TextLine) → draft ≡ first → after_lines draft lines ≡ after_lines first lines
lines_first draft first lines same = rw same refl

-- a line is added, and the others follow
pub lines_go_on : (draft after : Draft) (line : TextLine) (left next : LinesLeft) (whole : Result Draft LineFault)
    → StandsNext line left → next ≡ rest_of left → at_line line.number (after_line draft line) ≡ Ok after
    → after_lines draft left.lines ≡ whole → after_lines after next.lines ≡ whole
lines_go_on draft after line left next whole stands taken read so_far =
    let whole_is : whole ≡ after_lines draft (line ∷ (rest_of left).lines) = sym so_far ∙ ap (after_lines draft) stands.first in
    rw taken (sym (rw read at whole_is))

pub all_read : (bytes : List ℕ) (all : LinesLeft) (read : Result Draft LineFault) → all ≡ all_lines bytes → after_lines (draft_at Second Start) all.lines ≡ read
    → after_lines (draft_at Second Start) (numbered 1 (lines_of bytes)) ≡ read
all_read bytes all read same so_far = sym (ap (λ (ls : LinesLeft). after_lines (draft_at Second Start) ls.lines) same) ∙ so_far

-- a text that may not end there
pub text_fails : (bytes : List ℕ) (number : ℕ) (draft : Draft) (stop : Stop) (error : ParseError) → after_lines (draft_at Second Start) (numbered 1 (lines_of bytes)) ≡ Ok draft
    → number ≡ length (lines_of bytes) + 1 → error ≡ stopped_at number stop → Stops stop (finished draft) → Fails error (text_read bytes)
text_fails bytes number draft stops.Memory error read past is ended = rw is tt
text_fails bytes number draft (stops.Fault fault) error read past is ended = rw is (rw (read, ended, past) refl)

-- before the first line nothing is declared
pub kept_first : (draft : Draft) → draft ≡ draft_at Second Start → Kept draft
kept_first draft first = rw first (nothing_declared Second)

pub kept_opening : (draft : Draft) (version : Version) → draft ≡ draft_at version Opening → Kept draft
kept_opening draft version first = rw first (nothing_declared version)

-- the draft of what is read
abbrev draft_of : Draft → Result (Draft × LineFault) LineFault → Draft
draft_of other (Ok front) = front.0
draft_of other (Err fault) = other

-- a draft, and where its lines end
abbrev with_end : LineFault → Draft → Result (Draft × LineFault) LineFault
with_end end draft = Ok (draft, end)

-- a text that ends is within the limits
finished_within : (draft : Draft) (text : Text) → Kept draft → finished draft ≡ Ok text → IsWithinLimits text
finished_within draft text kept end = IfOk-at_ok (λ text. is_within_limits text ≡ true) end (finished_is draft kept)

lines_within : (first draft : Draft) (lines : List TextLine) → Kept first → after_lines first lines ≡ Ok draft → Kept draft
lines_within first draft lines kept read = IfOk-at_ok Kept read (lines_kept first lines kept)

pub text_is_within : (lines : List TextLine) (draft : Draft) (text : Text) → after_lines (draft_at Second Start) lines ≡ Ok draft → finished draft ≡ Ok text → IsWithinLimits text
text_is_within lines draft text read end = finished_within draft text (lines_within (draft_at Second Start) draft lines (nothing_declared Second) read) end

pub front_is_within : (version : Version) (lines : List TextLine) (past : ℕ) (draft : Draft) (end : LineFault) (text : Text) → front_end version lines past ≡ Ok (draft, end)
    → finished draft ≡ Ok text → IsWithinLimits text
front_is_within version lines past draft end text read ended = go (after_lines (draft_at version Opening) (text_lines lines)) refl read
  where
    go : (r : Result Draft LineFault) → after_lines (draft_at version Opening) (text_lines lines) ≡ r
        → (r >>= with_end (end_at (after_text lines) past)) ≡ with_end end draft → IsWithinLimits text
    go (Ok next) same read =
        let e : next ≡ draft = ap (draft_of next) read in
        finished_within draft text (rw e at (lines_within (draft_at version Opening) next (text_lines lines) (nothing_declared version) same)) ended
    go (Err fault) same read = absurd (let f : ⊥ = cc in f)

pub length_numbered : (n : ℕ) (lines : List (List ℕ)) → length (numbered n lines) ≡ length lines
length_numbered n [] = refl
length_numbered n (line ∷ lines) = let k = length_numbered (n + 1) lines in rw k refl

-- the lines and their count
pub past_first : (lines : List (List ℕ)) (all : List TextLine) → all ≡ numbered 1 lines → 1 + length all ≡ length lines + 1
past_first lines all same = let k = length_numbered 1 lines in rw same (omega (arith, k))

-- declarations that end are those of a text within the limits
whole_within : (section : Section) (draft : Draft) → Keeps section draft → IfOk (whole_in section draft) IsHeadWithinLimits
whole_within Roots draft h = demanded form_fault (nat_lt 0 (length draft.text.roots)) _ _ λ some. roots_within draft h some
whole_within _ draft h = tt

pub head_is_within : (lines : List TextLine) (past : ℕ) (draft : Draft) (end : LineFault) (head : Head) → head_end lines past ≡ Ok (draft, end) → whole_head draft ≡ Ok head
    → IsHeadWithinLimits head
head_is_within lines past draft end head read ended = go (after_lines (draft_at Second Opening) (head_lines lines)) refl (after_head lines) read
  where
    ends : (next : Draft) (named : Bool) (line : TextLine) → (if named then Err (end_before line) else with_end (end_before line) next) ≡ with_end end draft → next ≡ draft
    ends next true line read = absurd (let f : ⊥ = cc in f)
    ends next false line read = ap (draft_of next) read

    go : (r : Result Draft LineFault) → after_lines (draft_at Second Opening) (head_lines lines) ≡ r → (behind : List TextLine)
        → (r >>= λ next. before_op next behind past) ≡ with_end end draft → IsHeadWithinLimits head
    go (Ok next) same (line ∷ behind) read =
        let e : next ≡ draft = ends next (names_text (line_word line)) line read in
        let kept : Kept draft = rw e at (lines_within (draft_at Second Opening) next (head_lines lines) (nothing_declared Second) same) in
        IfOk-at_ok IsHeadWithinLimits ended (whole_within draft.section draft kept)
    go _ same _ read = absurd (let f : ⊥ = cc in f)
