-- What is read of the spelling of a document has its calls at the lines where they stand in it.
use Rattle.std.specs.Prelude.{◌≡◌, ℕ, ◌+◌, ◌-◌, Bool, List, [], ◌∷◌, ◌++◌, map, length, Some, Result, Ok, Err, codes, decimal, slice_get}
use Rattle.std.specs.List.{All, AllByRecursion}
use Rattle.std.proofs.Common.{refl, ap, sym, ◌∙◌, arith, append_assoc, length-append}
use Rattle.std.proofs.lemmas.List.{length-map}
use Rattle.std.proofs.lemmas.List.Elements.{All-from_recursion}
use Rattle.norm_lang.specs.Faults.{LineFault}
use Rattle.norm_lang.specs.Spelling.{spelled}
use Rattle.documents.specs.declared.document.ScriptCall.{ScriptCall}
use Rattle.documents.specs.declared.document.Document.{Document}
use Rattle.document_spelling.specs.Spelling.{setting_lines, spelled_call, scripts_lines, schedule_lines, document_lines}
use Rattle.document_spelling.specs.SpellingLaws.{calls_from, scripts_from, first_behind_settings, placed, IsSpelledIn, SpellingsArePlaced}
use Rattle.document_spelling.proofs.DocumentParts.{is_stated}
use Rattle.document_spelling.proofs.SpellingsRead.{placed_read}

-- the line behind others
line_behind : {A : Type 0} (before after : List A) (line : A) → slice_get (before ++ line ∷ after) (length before) ≡ Some line
line_behind [] after line = refl
line_behind (first ∷ before) after line = line_behind before after line

module _ (lines : List (List (List ℕ))) where
  call_stands : (before after : List (List (List ℕ))) (call : ScriptCall) (n : ℕ) → lines ≡ before ++ spelled_call call ∷ after → n ≡ 1 + length before → IsSpelledIn lines (record call { line = n })
  call_stands before after call n are place = record {
    counted = omega (arith, place);
    words =
        let behind : n - 1 ≡ length before = omega (arith, place) in
        ap (slice_get lines) behind ∙ ap (λ l. slice_get l (length before)) are ∙ line_behind before after (spelled_call call);
  }

  calls_stand : (before after : List (List (List ℕ))) (calls : List ScriptCall) (n : ℕ) → lines ≡ before ++ (map spelled_call calls ++ after) → n ≡ 1 + length before → AllByRecursion (IsSpelledIn lines) (calls_from n calls)
  calls_stand before after [] n are place = tt
  calls_stand before after (call ∷ calls) n are place = (
    call_stands before (map spelled_call calls ++ after) call n are place,
    calls_stand (before ++ spelled_call call ∷ []) after calls (n + 1) (are ∙ sym (append_assoc before (spelled_call call ∷ []) (map spelled_call calls ++ after)))
        (omega (arith, place, length-append before (spelled_call call ∷ []))),
  )

  -- each call of a script stands at its line
  abbrev AreSpelled : List ScriptCall → Type 0
  AreSpelled script = All (IsSpelledIn lines) script

  scripts_stand : (number : ℕ) (before after : List (List (List ℕ))) (scripts : List (List ScriptCall)) (n : ℕ) → lines ≡ before ++ (scripts_lines number scripts ++ after) → n ≡ 1 + length before
      → AllByRecursion AreSpelled (scripts_from n scripts)
  scripts_stand number before after [] n are place = tt
  scripts_stand number before after (script ∷ scripts) n are place =
      let first = codes "script" ∷ decimal number ∷ [] in
      let calls = map spelled_call script in
      let rest = scripts_lines (number + 1) scripts ++ after in
      let all : lines ≡ before ++ first ∷ (calls ++ rest) = are ∙ ap (λ l. before ++ first ∷ l) (append_assoc calls (scripts_lines (number + 1) scripts) after) in
      let own : lines ≡ (before ++ first ∷ []) ++ (calls ++ rest) = all ∙ sym (append_assoc before (first ∷ []) (calls ++ rest)) in
      let others : lines ≡ (before ++ first ∷ calls) ++ rest = all ∙ sym (append_assoc before (first ∷ calls) rest) in (
        All-from_recursion (IsSpelledIn lines) (calls_from (n + 1) script) (calls_stand (before ++ first ∷ []) rest script (n + 1) own (omega (arith, place, length-append before (first ∷ [])))),
        scripts_stand (number + 1) (before ++ first ∷ calls) after scripts (n + 1 + length script) others (omega (arith, place, length-append before (first ∷ calls), length-map script spelled_call)),
      )

-- the calls of a document, as they are placed, stand at their lines
placed_stand : (always : Bool) (document : Document) → All (λ (script : List ScriptCall). All (IsSpelledIn (document_lines always document)) script) (placed document).scripts
placed_stand always document =
    let lines = document_lines always document in
    let text = spelled document.text in
    let settings = setting_lines document in
    let after = schedule_lines always document.schedule in
    let are : lines ≡ (text ++ settings) ++ (scripts_lines 0 document.scripts ++ after) = sym (append_assoc text settings (scripts_lines 0 document.scripts ++ after)) in
    let n = first_behind_settings document in
    All-from_recursion (AreSpelled lines) (scripts_from n document.scripts) (scripts_stand lines 0 (text ++ settings) after document.scripts n are (omega (arith, length-append text settings)))

abbrev got : Document → Result Document LineFault → Document
got other (Ok document) = document
got other (Err fault) = other

pub spellings_are_placed : SpellingsArePlaced
spellings_are_placed always bytes document read is reads =
    let same : read ≡ placed document = ap (got read) (sym reads ∙ placed_read always document (is_stated bytes document is)) in
    (same, rw same (placed_stand always document))
