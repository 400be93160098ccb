-- The lines of a document after its text, one by one.
use Rattle.std.proofs.Common.{◌≡◌, ℕ, ◌≤◌, List, [], ◌∷◌, length, Result, Ok, Err, refl, sym, ap, ◌∙◌}
use Rattle.std.specs.Prelude.{codes}
use Rattle.oa_text.specs.Lines.{TextLine}
use Rattle.norm_lang.specs.declared.text.Text.{Text}
use Rattle.norm_lang.specs.Faults.{LineFault, at_line}
use Rattle.norm_lang.specs.declared.text.Version.{Version}
use Rattle.line_words.specs.declared.fault.ParseError.{ParseError}
use Rattle.line_words.specs.declared.fault.ParseError.TheVariants as errors
use Rattle.line_words.specs.Answered.{Fails}
use Rattle.norm_parser.specs.Cursors.{LinesLeft, all_lines, past_of, rest_of, StandsNext, IsRestOf}
use Rattle.norm_parser.specs.Version.{after_version}
use Rattle.norm_parser.specs.FrontRead.{front_in}
use Rattle.norm_parser.proofs.CursorLines.{input_from, rest_of_rest, version_read, front_is_read}
use Rattle.documents.specs.declared.document.Document.{Document}
use Rattle.documents.specs.DocumentRead.{Tail, empty_tail, after_line, after_lines, document_of, document_read}

-- the text before the lines, as it is kept, has few kinds
pub few_kinds : (text kept : Text) → kept ≡ text → length text.kinds ≤ 4 → length kept.kinds ≤ 4
few_kinds text kept same few = rw same few

-- ---- what is said after a text, line by line

pub tail_goes_on : (tail after : Tail) (line : TextLine) (left next : LinesLeft) (whole : Result Tail LineFault)
    → StandsNext line left → next ≡ rest_of left → at_line line.number (after_line tail line) ≡ Ok after
    → after_lines tail left.lines ≡ whole → after_lines after next.lines ≡ whole
tail_goes_on tail after line left next whole stands taken read so_far =
    let whole_is : whole ≡ after_lines tail (line ∷ (rest_of left).lines) = sym so_far ∙ ap (after_lines tail) stands.first in
    rw taken (sym (rw read at whole_is))

pub tail_stops : (tail : Tail) (line : TextLine) (left : LinesLeft) (fault : LineFault) (whole : Result Tail LineFault)
    → StandsNext line left → at_line line.number (after_line tail line) ≡ Err fault
    → after_lines tail left.lines ≡ whole → whole ≡ Err fault
tail_stops tail line left fault whole stands read so_far =
    let whole_is : whole ≡ after_lines tail (line ∷ (rest_of left).lines) = sym so_far ∙ ap (after_lines tail) stands.first in
    rw read at whole_is

pub tail_over : (tail : Tail) (left : LinesLeft) (whole : Result Tail LineFault) → left.lines ≡ [] → after_lines tail left.lines ≡ whole → whole ≡ Ok tail
tail_over tail left whole none so_far = sym so_far ∙ ap (after_lines tail) none

-- ---- the parts of a document, in turn

pub version_fails : (bytes : List ℕ) (all : LinesLeft) (error : ParseError) → all ≡ all_lines bytes → Fails error (after_version (codes "oa") (past_of all) all.lines)
    → Fails error (document_read bytes)
version_fails bytes all errors.Memory same fails = tt
version_fails bytes all (errors.Fault fault) same fails = rw (version_read (codes "oa") bytes all _ same fails) refl

pub front_fails : (bytes : List ℕ) (all start : LinesLeft) (version : Version) (error : ParseError) → all ≡ all_lines bytes → IsRestOf all start
    → after_version (codes "oa") (past_of all) all.lines ≡ Ok (start.number, version) → Fails error (front_in version start.lines (past_of start)) → Fails error (document_read bytes)
front_fails bytes all start version errors.Memory same is begun fails = tt
front_fails bytes all start version (errors.Fault fault) same is begun fails =
    rw (version_read (codes "oa") bytes all _ same begun, front_is_read bytes all start version _ same is fails) refl

pub tail_fails : (bytes : List ℕ) (all start left : LinesLeft) (version : Version) (text : Text) (error : ParseError) → all ≡ all_lines bytes → IsRestOf all start → IsRestOf start left
    → after_version (codes "oa") (past_of all) all.lines ≡ Ok (start.number, version) → front_in version start.lines (past_of start) ≡ Ok (text, left.number)
    → Fails error (after_lines (empty_tail version text.kinds) left.lines) → Fails error (document_read bytes)
tail_fails bytes all start left version text errors.Memory same is on begun front fails = tt
tail_fails bytes all start left version text (errors.Fault fault) same is on begun front fails =
    rw (version_read (codes "oa") bytes all _ same begun, front_is_read bytes all start version _ same is front, input_from bytes all left same (rest_of_rest all start left is on), fails) refl

pub document_is : (bytes : List ℕ) (all start left : LinesLeft) (version : Version) (text : Text) (tail : Tail) → all ≡ all_lines bytes → IsRestOf all start → IsRestOf start left
    → after_version (codes "oa") (past_of all) all.lines ≡ Ok (start.number, version) → front_in version start.lines (past_of start) ≡ Ok (text, left.number)
    → after_lines (empty_tail version text.kinds) left.lines ≡ Ok tail → document_read bytes ≡ Ok (document_of text tail)
document_is bytes all start left version text tail same is on begun front said =
    rw (version_read (codes "oa") bytes all _ same begun, front_is_read bytes all start version _ same is front, input_from bytes all left same (rest_of_rest all start left is on), said) refl

-- the same of a tail that keeps the text
pub document_kept : (bytes : List ℕ) (all start left : LinesLeft) (version : Version) (text own : Text) (tail : Tail) (document : Document) → all ≡ all_lines bytes → IsRestOf all start → IsRestOf start left
    → after_version (codes "oa") (past_of all) all.lines ≡ Ok (start.number, version) → front_in version start.lines (past_of start) ≡ Ok (text, left.number)
    → after_lines (empty_tail version text.kinds) left.lines ≡ Ok tail → own ≡ text → document ≡ document_of own tail → document_read bytes ≡ Ok document
document_kept bytes all start left version text own tail document same is on begun front said kept made =
    document_is bytes all start left version text tail same is on begun front said ∙ ap Ok (sym (made ∙ ap (λ t. document_of t tail) kept))
