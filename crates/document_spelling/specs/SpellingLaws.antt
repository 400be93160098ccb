-- That the spelling of a document is read back as the document, with its calls at the lines where the spelling has them.
use Rattle.std.specs.Prelude.{◌≡◌, ℕ, ◌+◌, ◌-◌, ◌≤◌, List, [], ◌∷◌, Bool, map, length, Some, slice_get}
use Rattle.std.specs.List.{All}
use Rattle.norm_lang.specs.Spelling.{spelled}
use Rattle.documents.specs.declared.document.ScriptCall.{ScriptCall}
use Rattle.documents.specs.declared.document.Document.{Document}
use Rattle.documents.specs.DocumentRead.{IsDocument}
use Rattle.document_spelling.specs.Spelling.{setting_lines, spelled_call, document_lines, spelling_with}

-- a call without its line
abbrev pub placeless : ScriptCall → ScriptCall
placeless call = record call { line = 0 }

-- the same document but for the lines of its calls
pub record AreAlike (one other : Document) : Type 0 where
  pub text : one.text ≡ other.text
  pub slots : one.slots ≡ other.slots
  pub first : one.first ≡ other.first
  pub last : one.last ≡ other.last
  pub fuel : one.fuel ≡ other.fuel
  pub scripts : map (map placeless) one.scripts ≡ map (map placeless) other.scripts
  pub schedule : one.schedule ≡ other.schedule

-- what is read of the spelling of a document is the same document but for the lines of its calls: for each document for which bytes
-- stand, be its `schedule` line left out if it has no turns, or written always
abbrev pub SpellingsAreRead : Type 0
SpellingsAreRead =
    (always : Bool) (bytes : List ℕ) (document : Document) → IsDocument bytes document
    → (read : Document) × IsDocument (spelling_with always document) read × AreAlike read document

-- calls on lines of their own, of which the first has this number
abbrev pub calls_from : ℕ → List ScriptCall → List ScriptCall
calls_from line [] = []
calls_from line (call ∷ calls) = record call { line = line } ∷ calls_from (line + 1) calls

-- scripts, of which the first begins at this line: its calls stand on the lines after that, and the next script behind them
abbrev pub scripts_from : ℕ → List (List ScriptCall) → List (List ScriptCall)
scripts_from line [] = []
scripts_from line (script ∷ scripts) = calls_from (line + 1) script ∷ scripts_from (line + 1 + length script) scripts

-- the number of the first line behind the text and the settings, if the first line of all has the number 1
abbrev pub first_behind_settings : Document → ℕ
first_behind_settings document = 1 + length (spelled document.text) + length (setting_lines document)

-- the same document, with its calls at the lines where its spelling has them
abbrev pub placed : Document → Document
placed document = record document { scripts = scripts_from (first_behind_settings document) document.scripts }

-- a call is spelled on its line, which is one of these, counted from 1
pub record IsSpelledIn (lines : List (List (List ℕ))) (call : ScriptCall) : Type 0 where
  pub counted : 1 ≤ call.line
  pub words : slice_get lines (call.line - 1) ≡ Some (spelled_call call)

-- what is read of the spelling of a document has its calls at the lines where they stand there, one after another: each is spelled on
-- its line
abbrev pub SpellingsArePlaced : Type 0
SpellingsArePlaced =
    (always : Bool) (bytes : List ℕ) (document read : Document) → IsDocument bytes document → IsDocument (spelling_with always document) read
    → (read ≡ placed document) × All (λ (script : List ScriptCall). All (IsSpelledIn (document_lines always document)) script) read.scripts
