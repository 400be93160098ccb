-- Which line makes a document's shape wrong, and the sentence on it.
use Rattle.std.specs.Prelude.{ℕ, ◌||◌, ◌&&◌, List, [], ◌∷◌, Option, Some, None, codes, decimal, nat_lt, ◌==◌, if◌then◌else◌}
use Rattle.std.specs.List.{concat}
use Rattle.oa_text.specs.Lines.{TextLine}
use Rattle.statuses.specs.Explanations.{shape_words}
use Rattle.message_lines.specs.Places.{trimmed, begins, begins_after, is_numbered, is_wrong_slots, line_that}

-- the first, or else the second
abbrev or_else : Option TextLine → Option TextLine → Option TextLine
or_else None other = other
or_else (Some line) other = Some line

-- a line, if it stands above another, or there is no other
abbrev pub if_above : Option TextLine → Option TextLine → Option TextLine
if_above other None = None
if_above None (Some line) = Some line
if_above (Some other) (Some line) = if nat_lt line.number other.number then Some line else None

-- the first `slots` line above the scripts whose count is out of range, or, if only their sum is too large, the first. A call may begin
-- with the word, too
abbrev pub slots_line : List ℕ → Option TextLine
slots_line bytes =
    or_else (if_above (line_that (begins_after 0 (codes "script")) bytes 0) (line_that is_wrong_slots bytes 0)) (line_that (begins_after 0 (codes "slots")) bytes 0)

-- the `nodes` line of a kind, by its number, or, if the text is a shipped one, the first `slots` line
abbrev pub counted_line : List ℕ → ℕ → Option TextLine
counted_line bytes kind = or_else (line_that (begins_after 0 (codes "nodes")) bytes kind) (line_that (begins_after 0 (codes "slots")) bytes 0)

-- the line that makes a document's shape wrong, by what is wrong with it and where: the ninth script, the slots, the initial nodes of a
-- kind, the phases, the fuel, or a call. A document without scripts has no such line, and of a replay the steps are told
abbrev pub shape_line : List ℕ → ℕ → ℕ → Option TextLine
shape_line bytes number at =
    if number == 1 then line_that (begins_after 0 (codes "script")) bytes 8
    else (if number == 2 then slots_line bytes
    else (if number == 5 then counted_line bytes at
    else (if number == 6 then line_that (begins_after 0 (codes "phases")) bytes 0
    else (if number == 7 then line_that (begins_after 0 (codes "fuel")) bytes 0
    else (if (number == 8) || (number == 9) then line_that (is_numbered at) bytes 0
    else None)))))

-- what is added if a line of a script is spelled like a setting
unfoldable pub shape_hint : ℕ → TextLine → List ℕ
shape_hint number line =
    if (number == 8) && (begins (codes "slots") line || (begins (codes "phases") line || begins (codes "fuel") line)) then codes ", and settings stand before the scripts"
    else []

-- with which line a document can't be run, and why
abbrev pub shape_at_sentence : TextLine → ℕ → List ℕ
shape_at_sentence line number = concat (
    codes "oa: line " ∷ decimal line.number ∷ codes ": the document cannot be run with '" ∷ trimmed line ∷ codes "': " ∷ shape_words number ∷ shape_hint number line
    ∷ codes ". See 'What can be run' in docs/language.md.\n" ∷ [])

-- a call has another number of arguments than the line of its operation says
abbrev pub arguments_sentence : TextLine → TextLine → List ℕ
arguments_sentence line op = concat (
    codes "oa: line " ∷ decimal line.number ∷ codes ": the document cannot be run with '" ∷ trimmed line
    ∷ codes "': the operation has another number of arguments, '" ∷ trimmed op ∷ codes "' in line " ∷ decimal op.number
    ∷ codes ". See 'What can be run' in docs/language.md.\n" ∷ [])
