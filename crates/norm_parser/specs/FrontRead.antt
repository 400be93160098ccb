-- The text that begins at a line of a document, and the declarations before a target's operations.
--
-- Both begin after a version line, which isn't theirs: a text of its own, a document and a target each have such a line,
-- they don't have the same one, and whoever reads them has read it before it reads on from the line after it. A text is read
-- in the version that the line says. A target is of the second.
use Rattle.std.specs.Prelude.{ℕ, ◌+◌, Bool, ◌||◌, ◌&&◌, List, [], ◌∷◌, length, Option, Some, None, Result, Ok, Err, codes, nat_lt, if◌then◌else◌, IsTrue}
use Rattle.std.specs.Str.{bytes_eq}
use Rattle.oa_text.specs.declared.fault.TextFault.{TextFault}
use Rattle.oa_text.specs.Lines.{TextLine, lines_of, numbered}
use Rattle.oa_text.specs.Tokens.{words_of, line_fault}
use Rattle.norm_lang.specs.declared.text.Text.{Text}
use Rattle.norm_lang.specs.declared.text.Version.{Version}
use Rattle.norm_lang.specs.declared.text.Version.TheVariants.{Second}
use Rattle.norm_lang.specs.Faults.{LineFault, form_fault, ◌>>=◌, demand}
use Rattle.norm_lang.specs.Grammar.{Section, Opening, Roots, Draft, draft_at, fault_number, after_lines, finished}
use Rattle.norm_lang.specs.Limits.{are_kinds, are_fields, owners_of, are_nodes, are_roots}
use Rattle.norm_parser.specs.declared.head.Head.{Head}

-- the lines from this number on
abbrev pub from_line : ℕ → List TextLine → List TextLine
from_line start [] = []
from_line start (line ∷ lines) = if nat_lt line.number start then from_line start lines else line ∷ from_line start lines

-- the first of words, or no bytes if there is none
abbrev pub front_of : List (List ℕ) → List ℕ
front_of [] = []
front_of (word ∷ rest) = word

-- the word that a line begins with, skipped or not
abbrev pub line_word : TextLine → List ℕ
line_word line = front_of (words_of line.bytes)

-- a document goes on with a line that begins so
abbrev pub ends_text : List ℕ → Bool
ends_text word =
    bytes_eq word (codes "slots")
    || (bytes_eq word (codes "phases")
    || (bytes_eq word (codes "fuel")
    || (bytes_eq word (codes "script")
    || bytes_eq word (codes "schedule"))))

-- a shipped text is whole after a line that begins so
abbrev pub names_text : List ℕ → Bool
names_text word = bytes_eq word (codes "use")

-- a target's operations begin so
abbrev pub ends_head : List ℕ → Bool
ends_head word = bytes_eq word (codes "op")

-- the lines of a text: up to a line that names a shipped one, and else before the line that a document goes on with
abbrev pub text_lines : List TextLine → List TextLine
text_lines [] = []
text_lines (line ∷ lines) =
    if ends_text (line_word line) then []
    else (if names_text (line_word line) then line ∷ []
    else line ∷ text_lines lines)

-- the lines after them
abbrev pub after_text : List TextLine → List TextLine
after_text [] = []
after_text (line ∷ lines) =
    if ends_text (line_word line) then line ∷ lines
    else (if names_text (line_word line) then lines
    else after_text lines)

-- the lines of declarations: up to the first operation, or to a line that names a shipped text
abbrev pub head_lines : List TextLine → List TextLine
head_lines [] = []
head_lines (line ∷ lines) = if ends_head (line_word line) || names_text (line_word line) then [] else line ∷ head_lines lines

-- the lines after them
abbrev pub after_head : List TextLine → List TextLine
after_head [] = []
after_head (line ∷ lines) = if ends_head (line_word line) || names_text (line_word line) then line ∷ lines else after_head lines

-- the number of the fault of a line that stands where another must: what is wrong with its bytes comes first
abbrev pub misplaced : Option TextFault → ℕ
misplaced None = form_fault
misplaced (Some fault) = fault_number fault

-- a line before which lines end, with its fault if a further line must come first
abbrev pub end_before : TextLine → LineFault
end_before line = record { line = line.number; number = misplaced (line_fault line) }

-- where lines end: before the first of those after them, or else with the input
abbrev pub end_at : List TextLine → ℕ → LineFault
end_at [] past = record { line = past; number = form_fault }
end_at (line ∷ lines) past = end_before line

-- what is read, with the number of the line after it, unless a further line must come first
abbrev pub ended : {A : Type 0} → Result A ℕ → LineFault → Result (A × ℕ) LineFault
ended (Ok x) end = Ok (x, end.line)
ended (Err fault) end = Err end

-- what the lines of a text declare, and where they end; `past` is one more than the last line's number
abbrev pub front_end : Version → List TextLine → ℕ → Result (Draft × LineFault) LineFault
front_end version lines past = do
  draft ← after_lines (draft_at version Opening) (text_lines lines)
  Ok (draft, end_at (after_text lines) past)

-- the text that lines begin with, and the number of the line after it
abbrev pub front_in : Version → List TextLine → ℕ → Result (Text × ℕ) LineFault
front_in version lines past = do
  front ← front_end version lines past
  ended (finished front.0) front.1

-- the text of a version that begins at a line, and the number of the line after it; otherwise the first fault of the text's
-- lines, or else the fault where they end
abbrev pub front_read : Version → List ℕ → ℕ → Result (Text × ℕ) LineFault
front_read version bytes start = front_in version (from_line start (numbered 1 (lines_of bytes))) (length (lines_of bytes) + 1)

-- what a text declares, if it may end with that
abbrev pub head_of : Text → Bool → Result Head ℕ
head_of text whole = do
  done ← demand form_fault whole
  Ok (record { kinds = text.kinds; fields = text.fields; roots = text.roots; nodes = text.nodes })

-- declarations are whole with at least one root after all nodes
abbrev pub whole_in : Section → Draft → Result Head ℕ
whole_in Roots draft = do
  some ← demand form_fault (nat_lt 0 (length draft.text.roots))
  Ok (record { kinds = draft.text.kinds; fields = draft.text.fields; roots = draft.text.roots; nodes = draft.text.nodes })
whole_in _ draft = Err form_fault

-- the declarations of a draft, unless a further line must follow
abbrev pub whole_head : Draft → Result Head ℕ
whole_head draft = whole_in draft.section draft

-- declarations end before an operation alone: not with the input, and no line may name a shipped text
abbrev pub before_op : Draft → List TextLine → ℕ → Result (Draft × LineFault) LineFault
before_op draft [] past = Err (end_at [] past)
before_op draft (line ∷ lines) past = if names_text (line_word line) then Err (end_before line) else Ok (draft, end_before line)

-- what the lines of declarations declare, and where they end
abbrev pub head_end : List TextLine → ℕ → Result (Draft × LineFault) LineFault
head_end lines past = do
  draft ← after_lines (draft_at Second Opening) (head_lines lines)
  before_op draft (after_head lines) past

-- the declarations that lines begin with, and the number of the first operation's line
abbrev pub head_in : List TextLine → ℕ → Result (Head × ℕ) LineFault
head_in lines past = do
  head ← head_end lines past
  ended (whole_head head.0) head.1

-- the declarations that begin at a line, and the number of the first operation's line; otherwise the first fault of
-- their lines, or else the fault where they end
abbrev pub head_read : List ℕ → ℕ → Result (Head × ℕ) LineFault
head_read bytes start = head_in (from_line start (numbered 1 (lines_of bytes))) (length (lines_of bytes) + 1)

-- declarations are those of a text within the limits
abbrev pub IsHeadWithinLimits : Head → Type 0
IsHeadWithinLimits head =
    IsTrue (are_kinds head.kinds && (are_fields (length head.kinds) head.fields && (are_nodes (length head.kinds) head.fields head.nodes && are_roots (length head.kinds) (owners_of head.nodes) head.roots)))
