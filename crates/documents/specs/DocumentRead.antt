-- The document that bytes spell: a version line, a text, and after it the settings, each at most once and in this
-- order, the slots by kind, the scripts in the order of their numbers, and at most one schedule; or the first fault.
use Rattle.std.specs.Prelude.{◌≡◌, ℕ, ◌+◌, Bool, true, false, ◌&&◌, List, [], ◌∷◌, ◌++◌, length, replicate, slice_set, Option, Some, None, Result, Ok, Err, codes, nat_lt, if◌then◌else◌}
use Rattle.std.specs.Str.{bytes_eq}
use Rattle.oa_text.specs.Lines.{TextLine, lines_of, numbered}
use Rattle.norm_lang.specs.declared.text.Text.{Text}
use Rattle.norm_lang.specs.declared.text.Version.{Version}
use Rattle.norm_lang.specs.Faults.{LineFault, form_fault, too_many, ◌>>=◌, demand, at_line}
use Rattle.norm_lang.specs.LineWords.{end_at}
use Rattle.norm_lang.specs.Declarations.{is_reserved}
use Rattle.line_words.specs.Lines.{words_in, first_word}
use Rattle.norm_parser.specs.FrontRead.{from_line, front_read}
use Rattle.norm_parser.specs.Version.{after_version}
use Rattle.schedule_turns.specs.declared.turn.Turn.{Turn}
use Rattle.documents.specs.declared.document.ScriptCall.{ScriptCall}
use Rattle.documents.specs.declared.document.Document.{Document}
use Rattle.documents.specs.declared.limits.TheConstants.{DEFAULT_SLOTS, DEFAULT_FIRST, DEFAULT_LAST, DEFAULT_FUEL}
use Rattle.documents.specs.DocumentLimits.{most_turns}
use Rattle.documents.specs.TailLines.{Slots, slots_line, fuel_line, phases_line, script_line, call_line, turn_line}

-- where a line after a document's text stands: after the text and maybe lines that set slots, after one of the other settings, in
-- a script, or in the schedule
pub data Stage : Type 0 where
  AfterText : Stage
  AfterPhases : Stage
  AfterFuel : Stage
  InScript : Stage
  InSchedule : Stage

-- what the lines after a text say so far
pub record Tail : Type 0 where
  pub stage : Stage
  -- the version of the lines, and the kinds of the text
  pub version : Version
  pub kinds : List (List ℕ)
  -- the first kind whose slots may still be set, and the slots of each kind
  pub next_kind : ℕ
  pub slots : List ℕ
  pub first : ℕ
  pub last : ℕ
  pub fuel : ℕ
  -- the scripts that are whole, and the one whose lines stand here
  pub scripts : List (List ScriptCall)
  pub script : List ScriptCall
  pub schedule : List Turn

-- ---- the settings of a document that doesn't set them

-- slots of a kind
abbrev pub default_slots : ℕ
default_slots = DEFAULT_SLOTS

abbrev pub default_first : ℕ
default_first = DEFAULT_FIRST

abbrev pub default_last : ℕ
default_last = DEFAULT_LAST

abbrev pub default_fuel : ℕ
default_fuel = DEFAULT_FUEL

-- no line after a text with these kinds has been read: the settings are the defaults
abbrev pub empty_tail : Version → List (List ℕ) → Tail
empty_tail version kinds = record {
  stage = AfterText;
  version = version;
  kinds = kinds;
  next_kind = 0;
  slots = replicate (length kinds) default_slots;
  first = default_first;
  last = default_last;
  fuel = default_fuel;
  scripts = [];
  script = [];
  schedule = [];
}

-- slots and phases may be set after the text, before any other setting
abbrev pub is_after_text : Stage → Bool
is_after_text AfterText = true
is_after_text _ = false

-- the fuel may be set after them
abbrev pub may_set_fuel : Stage → Bool
may_set_fuel AfterText = true
may_set_fuel AfterPhases = true
may_set_fuel _ = false

-- in a script the one that lines stand in is the last
abbrev pub whole_scripts_in : Stage → List (List ScriptCall) → List ScriptCall → List (List ScriptCall)
whole_scripts_in InScript scripts script = scripts ++ script ∷ []
whole_scripts_in _ scripts script = scripts

-- the scripts, that in which lines stand among them
abbrev pub whole_scripts : Tail → List (List ScriptCall)
whole_scripts tail = whole_scripts_in tail.stage tail.scripts tail.script

-- the next script begins
abbrev pub with_script : Tail → Tail
with_script tail = record tail { stage = InScript; scripts = whole_scripts tail; script = [] }

-- the schedule begins
abbrev pub with_schedule : Tail → Tail
with_schedule tail = record tail { stage = InSchedule; scripts = whole_scripts tail; script = [] }

-- the next script, or the schedule
abbrev pub begins : Tail → List ℕ → List (List ℕ) → Result Tail ℕ
begins tail word rest =
    if bytes_eq word (codes "script") then (script_line (length (whole_scripts tail)) rest >>= λ done. Ok (with_script tail))
    else (if bytes_eq word (codes "schedule") then (end_at rest >>= λ done. Ok (with_schedule tail))
    else Err form_fault)

-- the slots of one more kind
abbrev pub with_slots : Tail → Slots → Tail
with_slots tail slots = record tail { next_kind = slots.owner + 1; slots = slice_set tail.slots slots.owner slots.count }

-- a setting that may stand here, or what follows the settings
abbrev pub in_settings : Tail → List ℕ → List (List ℕ) → Result Tail ℕ
in_settings tail word rest =
    if bytes_eq word (codes "slots") && is_after_text tail.stage then (slots_line tail.version tail.kinds tail.next_kind rest >>= λ slots. Ok (with_slots tail slots))
    else (if bytes_eq word (codes "phases") && is_after_text tail.stage then (phases_line rest >>= λ phases. Ok (record tail { stage = AfterPhases; first = phases.first; last = phases.last }))
    else (if bytes_eq word (codes "fuel") && may_set_fuel tail.stage then (fuel_line rest >>= λ fuel. Ok (record tail { stage = AfterFuel; fuel = fuel }))
    else begins tail word rest))

-- one more call: in a script each line is one that doesn't begin the next script or the schedule
abbrev pub in_calls : Tail → ℕ → List ℕ → List (List ℕ) → Result Tail ℕ
in_calls tail line word rest =
    if is_reserved word then begins tail word rest
    else (call_line line (length tail.script) word rest >>= λ call. Ok (record tail { script = tail.script ++ call ∷ [] }))

-- one more turn: at most 100,000
abbrev pub in_schedule : Tail → List ℕ → List (List ℕ) → Result Tail ℕ
in_schedule tail word rest = do
  turn ← turn_line word rest
  room ← demand too_many (nat_lt (length tail.schedule) most_turns)
  Ok (record tail { schedule = tail.schedule ++ turn ∷ [] })

-- the line that stands here, with its number, by its first word
abbrev pub in_stage : Stage → Tail → ℕ → List ℕ → List (List ℕ) → Result Tail ℕ
in_stage InScript tail line word rest = in_calls tail line word rest
in_stage InSchedule tail line word rest = in_schedule tail word rest
in_stage _ tail line word rest = in_settings tail word rest

-- what is said after the words of a line, of which there are none if it is skipped
abbrev pub after_words : Tail → ℕ → Option (List ℕ × List (List ℕ)) → Result Tail ℕ
after_words tail line None = Ok tail
after_words tail line (Some word) = in_stage tail.stage tail line word.0 word.1

-- what is said after a line, or the line's first fault. Its bytes are judged first, even if it is skipped
abbrev pub after_line : Tail → TextLine → Result Tail ℕ
after_line tail line = words_in line >>= λ words. after_words tail line.number (first_word words)

-- what is said after lines, or the first line that has a fault, with its first fault
abbrev pub after_lines : Tail → List TextLine → Result Tail LineFault
after_lines tail [] = Ok tail
after_lines tail (line ∷ lines) = do
  next ← at_line line.number (after_line tail line)
  after_lines next lines

-- a text with the default settings, no script and no schedule
abbrev pub bare_document : Text → Document
bare_document text = record {
  text = text;
  slots = replicate (length text.kinds) default_slots;
  first = default_first;
  last = default_last;
  fuel = default_fuel;
  scripts = [];
  schedule = [];
}

-- a text and what is said after it
abbrev pub document_of : Text → Tail → Document
document_of text tail = record {
  text = text;
  slots = tail.slots;
  first = tail.first;
  last = tail.last;
  fuel = tail.fuel;
  scripts = whole_scripts tail;
  schedule = tail.schedule;
}

-- the document that bytes spell, or the first line that has a fault, with its first fault
abbrev pub document_read : List ℕ → Result Document LineFault
document_read bytes = do
  start ← after_version (codes "oa") (length (lines_of bytes) + 1) (numbered 1 (lines_of bytes))
  front ← front_read start.1 bytes start.0
  tail ← after_lines (empty_tail start.1 front.0.kinds) (from_line front.1 (numbered 1 (lines_of bytes)))
  Ok (document_of front.0 tail)

-- bytes are in the grammar of documents, and stand for this one
abbrev pub IsDocument : List ℕ → Document → Type 0
IsDocument bytes document = document_read bytes ≡ Ok document
