-- The canonical spelling of a document: its text, a line for each setting, the scripts, and the schedule, each line with one space
-- between words and a newline. A `use` line isn't kept: the text that it names is written out.
use Rattle.std.specs.Prelude.{ℕ, ◌+◌, Bool, true, false, List, [], ◌∷◌, ◌++◌, map, slice_index, codes, decimal}
use Rattle.std.specs.List.{flat_map}
use Rattle.norm_lang.specs.Spelling.{line_bytes, spelled}
use Rattle.schedule_turns.specs.declared.turn.StepKind.{StepKind}
use Rattle.schedule_turns.specs.declared.turn.StepKind.TheVariants as kinds
use Rattle.schedule_turns.specs.declared.turn.Turn.{Turn}
use Rattle.schedule_turns.specs.declared.turn.Turn.TheVariants as turns
use Rattle.documents.specs.declared.document.ScriptCall.{ScriptCall}
use Rattle.documents.specs.declared.document.Document.{Document}

-- `slots KIND S`, for the kind with a number and a name
abbrev pub spelled_slots : ℕ → List ℕ → List ℕ → List (List ℕ)
spelled_slots k name slots = codes "slots" ∷ name ∷ decimal (slice_index slots k) ∷ []

-- `slots KIND S` for each of these kinds, of which the first has a number
abbrev pub slots_lines : ℕ → List (List ℕ) → List ℕ → List (List (List ℕ))
slots_lines k [] slots = []
slots_lines k (name ∷ names) slots = spelled_slots k name slots ∷ slots_lines (k + 1) names slots

-- `phases F L`
abbrev pub spelled_phases : ℕ → ℕ → List (List ℕ)
spelled_phases first last = codes "phases" ∷ decimal first ∷ decimal last ∷ []

-- `fuel N`
abbrev pub spelled_fuel : ℕ → List (List ℕ)
spelled_fuel fuel = codes "fuel" ∷ decimal fuel ∷ []

-- the slots of each kind, the phases, and the fuel
abbrev pub setting_lines : Document → List (List (List ℕ))
setting_lines document =
    slots_lines 0 document.text.kinds document.slots
    ++ (spelled_phases document.first document.last
    ∷ spelled_fuel document.fuel ∷ [])

-- `NAME V V ..`
abbrev pub spelled_call : ScriptCall → List (List ℕ)
spelled_call call = call.name ∷ map decimal call.args

-- `script C`, and a line for each call
abbrev pub script_lines : ℕ → List ScriptCall → List (List (List ℕ))
script_lines number script = (codes "script" ∷ decimal number ∷ []) ∷ map spelled_call script

-- the scripts from this number on
abbrev pub scripts_lines : ℕ → List (List ScriptCall) → List (List (List ℕ))
scripts_lines number [] = []
scripts_lines number (script ∷ scripts) = script_lines number script ++ scripts_lines (number + 1) scripts

abbrev pub step_kind_word : StepKind → List ℕ
step_kind_word kinds.Load = codes "load"
step_kind_word kinds.Check = codes "check"
step_kind_word kinds.Exchange = codes "exchange"

-- `step C N`, `upto C KIND N` and `op C N`
abbrev pub spelled_turn : Turn → List (List ℕ)
spelled_turn (turns.Step caller count) = codes "step" ∷ decimal caller ∷ decimal count ∷ []
spelled_turn (turns.Upto caller kind count) = codes "upto" ∷ decimal caller ∷ step_kind_word kind ∷ decimal count ∷ []
spelled_turn (turns.Ops caller count) = codes "op" ∷ decimal caller ∷ decimal count ∷ []

-- `schedule`, and a line for each turn
abbrev pub turn_lines : List Turn → List (List (List ℕ))
turn_lines schedule = (codes "schedule" ∷ []) ∷ map spelled_turn schedule

-- a schedule without turns has no line, unless one is to stand always
abbrev pub schedule_lines : Bool → List Turn → List (List (List ℕ))
schedule_lines true schedule = turn_lines schedule
schedule_lines false [] = []
schedule_lines false (turn ∷ schedule) = turn_lines (turn ∷ schedule)

-- the lines of a document, each as its words; a `schedule` line stands always, or only if there are turns
abbrev pub document_lines : Bool → Document → List (List (List ℕ))
document_lines always document =
    spelled document.text
    ++ (setting_lines document
    ++ (scripts_lines 0 document.scripts
    ++ schedule_lines always document.schedule))

-- the bytes of these lines
abbrev pub spelling_with : Bool → Document → List ℕ
spelling_with always document = flat_map line_bytes (document_lines always document)

-- the canonical spelling
abbrev pub document_spelling : Document → List ℕ
document_spelling document = spelling_with false document
