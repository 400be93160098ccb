-- What is read of the spelling of a document is the same document, but for the lines of its calls.
use Rattle.std.specs.Prelude.{◌≡◌, ℕ, ◌+◌, ◌≤◌, Bool, true, List, [], ◌∷◌, ◌++◌, map, length, Ok}
use Rattle.std.specs.List.{flat_map, AllByRecursion}
use Rattle.std.proofs.Common.{refl, ap, ◌∙◌, arith}
use Rattle.norm_lang.specs.declared.text.Version.TheVariants.{Second}
use Rattle.norm_lang.specs.Limits.{is_within_limits}
use Rattle.norm_lang.specs.Spelling.{line_bytes, spelled}
use Rattle.norm_parser.specs.FrontRead.{front_of, ends_text}
use Rattle.documents.specs.declared.document.ScriptCall.{ScriptCall}
use Rattle.documents.specs.declared.document.Document.{Document}
use Rattle.documents.specs.DocumentRead.{Tail, empty_tail, after_lines, document_of, document_read, IsDocument}
use Rattle.text_laws.proofs.WithinLimits.{KindParts, parts_of}
use Rattle.text_laws.proofs.WordsRead.{AreKinds}
use Rattle.document_spelling.specs.Spelling.{slots_lines, setting_lines, scripts_lines, schedule_lines, spelling_with}
use Rattle.document_spelling.specs.SpellingLaws.{placeless, AreAlike, SpellingsAreRead, calls_from, scripts_from, first_behind_settings, placed}
use Rattle.document_spelling.proofs.JoinedWords.{IsPlain}
use Rattle.document_spelling.proofs.DocumentParts.{IsStated, is_stated}
use Rattle.document_spelling.proofs.SpelledFront.{found_from, after_spelling, document_given}
use Rattle.document_spelling.proofs.TailSpelled.{after_told, lines_then, lines_read, settled, settings_read}
use Rattle.document_spelling.proofs.ScriptsSpelled.{tail_said}
use Rattle.document_spelling.proofs.TailPlain.{tail_lines, tail_plain}

-- lines of which the first is one with which a document goes on behind its text
record GoOn (lines : List (List (List ℕ))) : Type 0 where
  next : List (List ℕ)
  rest : List (List (List ℕ))
  same : lines ≡ next ∷ rest
  ends : ends_text (front_of next) ≡ true

-- with at least one kind the first line sets slots
slots_go_on : (kinds : List (List ℕ)) (slots : List ℕ) (others behind : List (List (List ℕ))) → 1 ≤ length kinds → GoOn ((slots_lines 0 kinds slots ++ others) ++ behind)
slots_go_on [] slots others behind some = absurd (omega (arith, some))
slots_go_on (name ∷ kinds) slots others behind some = record { next = _; rest = _; same = refl; ends = refl }

-- lines that go on behind the text
given : (document : Document) (lines : List (List (List ℕ))) (tail : Tail) → is_within_limits document.text ≡ true → GoOn lines → AllByRecursion IsPlain lines
    → after_lines (empty_tail Second document.text.kinds) (found_from (after_spelling document.text) lines) ≡ Ok tail
    → document_read (flat_map line_bytes (spelled document.text ++ lines)) ≡ Ok (document_of document.text tail)
given document lines tail within go plain read =
    ap (λ (l : List (List (List ℕ))). document_read (flat_map line_bytes (spelled document.text ++ l))) go.same
    ∙ document_given document.text go.next go.rest tail within (rw go.same at plain) go.ends (rw go.same at read)

-- what is read of the spelling
pub placed_read : (always : Bool) (document : Document) → IsStated document → IsDocument (spelling_with always document) (placed document)
placed_read always document is =
    let text = document.text in
    let kinds : KindParts text.kinds = (parts_of text is.text).kinds in
    let are : AreKinds Second text.kinds = record { of = tt; names = kinds.each; different = kinds.apart } in
    let n = after_spelling text in
    let behind = scripts_lines 0 document.scripts ++ schedule_lines always document.schedule in
    let base = settled text.kinds document.slots document.first document.last document.fuel in
    let m = n + length (setting_lines document) in
    let says = tail_said text.kinds document.slots document.first document.last document.fuel always document.scripts document.schedule m is.scripts is.few_scripts is.turns is.few_turns in
    let told : after_told (empty_tail Second text.kinds) n (tail_lines always document) ≡ Ok says.said
    = lines_then (empty_tail Second text.kinds) base n (setting_lines document) behind (Ok says.said)
    (settings_read text.kinds document.slots document.first document.last document.fuel n are is.slots is.counts is.first is.last is.fuel) says.read in
    let plain = tail_plain always document kinds.each is in
    given document (tail_lines always document) says.said is.text (slots_go_on text.kinds document.slots _ behind (kinds.count).some) plain
    (lines_read (tail_lines always document) n (empty_tail Second text.kinds) says.said plain told)
    ∙ ap Ok (says.same text)

-- ---- alike

calls_alike : (line : ℕ) (calls : List ScriptCall) → map placeless (calls_from line calls) ≡ map placeless calls
calls_alike line [] = refl
calls_alike line (call ∷ calls) = ap (λ rest. placeless call ∷ rest) (calls_alike (line + 1) calls)

scripts_alike : (line : ℕ) (scripts : List (List ScriptCall)) → map (map placeless) (scripts_from line scripts) ≡ map (map placeless) scripts
scripts_alike line [] = refl
scripts_alike line (script ∷ scripts) = rw (calls_alike (line + 1) script, scripts_alike (line + 1 + length script) scripts) refl

placed_alike : (document : Document) → AreAlike (placed document) document
placed_alike document = record {
  text = refl;
  slots = refl;
  first = refl;
  last = refl;
  fuel = refl;
  scripts = scripts_alike (first_behind_settings document) document.scripts;
  schedule = refl;
}

pub spellings_are_read : SpellingsAreRead
spellings_are_read always bytes document is = (placed document, placed_read always document (is_stated bytes document is), placed_alike document)
