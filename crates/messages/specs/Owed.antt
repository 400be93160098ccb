-- What a line that may not stand where it does should have been, as far as the lines above and its own words tell.
use Rattle.std.specs.Prelude.{ℕ, zero, suc, Bool, false, not, ◌&&◌, ◌||◌, List, [], ◌∷◌, length, filter, find, Option, Some, None, is_some, is_none, codes, decimal, nat_lt, ◌==◌, if◌then◌else◌}
use Rattle.std.specs.List.{concat}
use Rattle.oa_text.specs.Lines.{TextLine, lines_of, numbered}
use Rattle.oa_text.specs.Numbers.{is_numeral}
use Rattle.oa_text.specs.Tokens.{line_fault}
use Rattle.norm_lang.specs.LineWords.{is_lower, is_name}
use Rattle.messages.specs.declared.owed.Owed.{Owed}
use Rattle.messages.specs.declared.owed.Owed.TheVariants.{Version, Gen, Wrap, Instruction, Entry, Call, Nothing}
use Rattle.message_words.specs.Forms.{line_form}
use Rattle.message_lines.specs.Places.{words_if, word_at, trimmed, begins, is_said, is_entry, number_said, line_that}

-- the last of lines, or this one if there are none
abbrev pub last_of : Option TextLine → List TextLine → Option TextLine
last_of found [] = found
last_of found (line ∷ lines) = last_of (Some line) lines

-- the last line that passes a test
abbrev pub last_that : (TextLine → Bool) → List ℕ → Option TextLine
last_that test bytes = last_of None (filter test (numbered 1 (lines_of bytes)))

-- a line above this number says something
abbrev pub is_said_above : ℕ → TextLine → Bool
is_said_above number line = nat_lt line.number number && is_said line

-- a word begins with a lower-case letter
abbrev pub is_lower_word : List ℕ → Bool
is_lower_word [] = false
is_lower_word (b ∷ bytes) = is_lower b

-- a line above this number begins an operation or one of its methods; a turn `op C N` of the schedule has no name
abbrev pub is_mark_above : ℕ → TextLine → Bool
is_mark_above number line = nat_lt line.number number && ((begins (codes "op") line && is_lower_word (word_at line 1)) || (begins (codes "gen") line || begins (codes "wrap") line))

-- a document goes on after its text with this line
abbrev pub ends_text : TextLine → Bool
ends_text line = begins (codes "slots") line || (begins (codes "phases") line || (begins (codes "fuel") line || (begins (codes "script") line || begins (codes "schedule") line)))

-- a document has gone on after its text above this number
abbrev pub ends_text_above : ℕ → TextLine → Bool
ends_text_above number line = nat_lt line.number number && ends_text line

-- what must follow a line that begins an operation or a method, if this is the last line that says something
abbrev pub owed_after : TextLine → TextLine → Owed
owed_after mark said =
    if begins (codes "op") mark then Gen
    else (if begins (codes "gen") mark then Wrap
    else (if mark.number == said.number then Instruction
    else Nothing))

-- the same by the last such line, if there is one, and the last line that says something
abbrev pub owed_by : Option TextLine → Option TextLine → Owed
owed_by mark None = Version
owed_by None (Some said) = Nothing
owed_by (Some mark) (Some said) = owed_after mark said

-- a line above this number begins a commit
abbrev pub is_commit_above : ℕ → TextLine → Bool
is_commit_above number line = nat_lt line.number number && begins (codes "commit") line

-- a line between these numbers is an entry of a commit
abbrev pub is_entry_between : ℕ → ℕ → TextLine → Bool
is_entry_between after number line = nat_lt after line.number && (nat_lt line.number number && is_entry line)

-- fewer entries than a commit says follow it above a number
abbrev pub lacks_of : List ℕ → ℕ → ℕ → Option (Option ℕ) → Bool
lacks_of bytes after number (Some (Some (suc count))) = is_none (line_that (is_entry_between after number) bytes count)
lacks_of bytes after number (Some (Some zero)) = false
lacks_of bytes after number (Some None) = false
lacks_of bytes after number None = false

abbrev pub lacks_after : List ℕ → ℕ → Option TextLine → Bool
lacks_after bytes number None = false
lacks_after bytes number (Some commit) = lacks_of bytes commit.number number (number_said (word_at commit 1))

-- the last commit above a number lacks an entry
abbrev pub lacks_entry : List ℕ → ℕ → Bool
lacks_entry bytes number = lacks_after bytes number (last_that (is_commit_above number) bytes)

-- a line begins a script or the schedule
abbrev pub begins_part : TextLine → Bool
begins_part line = begins (codes "script") line || begins (codes "schedule") line

-- a line above this number begins a script or the schedule
abbrev pub is_part_above : ℕ → TextLine → Bool
is_part_above number line = nat_lt line.number number && begins_part line

-- what stands after a text, by the last line that begins a script or the schedule, if there is one: in a script a call
abbrev pub owed_behind : Option TextLine → Owed
owed_behind None = Nothing
owed_behind (Some part) = if begins (codes "script") part then Call else Nothing

-- what must stand at a line, by the lines above it: an entry of a commit, the version, `gen`, `wrap` before a text may end, or a wrap-up's
-- first instruction. After a text nothing is known to be owed but a call in a script
abbrev pub owed_at : List ℕ → ℕ → Owed
owed_at bytes number =
    if is_some (line_that (ends_text_above number) bytes 0) then owed_behind (last_that (is_part_above number) bytes)
    else (if lacks_entry bytes number then Entry
    else owed_by (last_that (is_mark_above number) bytes) (last_that (is_said_above number) bytes))

-- a line ends the method that stands before it
abbrev pub ends_method : TextLine → Bool
ends_method line = begins (codes "op") line || ends_text line

-- `@J`, where J is spelled as a number
abbrev pub is_node_word : List ℕ → Bool
is_node_word [] = false
is_node_word (b ∷ bytes) = (b == 64) && is_numeral bytes

-- a word is spelled as no word of the language is: neither as a name, nor as a number, nor as a node
abbrev pub is_odd_word : List ℕ → Bool
is_odd_word word = not (is_name word || (is_numeral word || is_node_word word))

-- the first such word of a line
abbrev pub odd_word : TextLine → Option (List ℕ)
odd_word line = find is_odd_word (words_if (line_fault line) line.bytes)

-- a word begins a comment
abbrev pub is_hash_word : List ℕ → Bool
is_hash_word [] = false
is_hash_word (b ∷ bytes) = b == 35

-- ---- the sentences

-- a line may not stand there, since something else must
abbrev pub owed_sentence : TextLine → List ℕ → List ℕ
owed_sentence line owed = concat (
    codes "oa: line " ∷ decimal line.number ∷ codes " is at fault: it is '" ∷ trimmed line ∷ codes "', and " ∷ owed ∷ codes ". See 'Faults' in docs/language.md.\n" ∷ [])

-- a word of a line is none of the language
abbrev pub odd_sentence : TextLine → List ℕ → List ℕ
odd_sentence line word = concat (
    codes "oa: line " ∷ decimal line.number ∷ codes " is at fault: '" ∷ word
    ∷ codes "' is neither a name (at most 16 lower-case letters, digits and _, a letter first), nor a number (decimal, without a sign or a leading 0), nor a node (like @1). See 'Lines and tokens' in docs/language.md.\n" ∷ [])

-- a line that begins so is spelled otherwise, or stands elsewhere
abbrev pub form_sentence : TextLine → List ℕ → List ℕ
form_sentence line form = concat (
    codes "oa: line " ∷ decimal line.number ∷ codes " is at fault: it is '" ∷ trimmed line ∷ codes "', and such a line is spelled " ∷ form
    ∷ codes ". See 'Faults' in docs/language.md.\n" ∷ [])

-- a document ends, and something must follow
abbrev pub end_sentence : ℕ → List ℕ → List ℕ
end_sentence number owed = concat (
    codes "oa: line " ∷ decimal number ∷ codes " is at fault: the document ends there, and " ∷ owed ∷ codes ". See 'Faults' in docs/language.md.\n" ∷ [])

-- ---- which of them is written

abbrev pub form_message : TextLine → List ℕ → List ℕ
form_message line form = if length form == 0 then owed_sentence line (codes "no line that may stand there begins so") else form_sentence line form

abbrev pub word_message : TextLine → List ℕ → Option (List ℕ) → List ℕ
word_message line form None = form_message line form
word_message line form (Some word) = if is_hash_word word then owed_sentence line (codes "a comment must have a line of its own") else odd_sentence line word

-- how a line is spelled, by its first word
abbrev pub form_of : TextLine → List ℕ
form_of line = line_form (word_at line 0)

-- how a line of a script is spelled: as a call, unless its first word is `script`, `schedule` or `events`
unfoldable pub script_form : TextLine → List ℕ
script_form line = if begins_part line || begins (codes "events") line then form_of line else codes "'NAME V V ..' in a script, with as many numbers as the operation has arguments"

-- a line may not stand there, by what is owed
abbrev pub misplaced_by : Owed → TextLine → List ℕ
misplaced_by Version line = owed_sentence line (codes "the first line must be 'oa 1' or 'oa 2'")
misplaced_by Gen line = owed_sentence line (codes "'gen' must follow the op line")
misplaced_by Wrap line = if ends_method line then owed_sentence line (codes "'wrap' and the wrap-up must follow the generator") else word_message line (form_of line) (odd_word line)
misplaced_by Instruction line = if ends_method line then owed_sentence line (codes "an instruction must follow 'wrap'") else word_message line (form_of line) (odd_word line)
misplaced_by Entry line = if is_entry line then word_message line (form_of line) (odd_word line) else owed_sentence line (codes "an entry of the commit, 'with' or 'withroot', must follow")
misplaced_by Call line = word_message line (script_form line) (odd_word line)
misplaced_by Nothing line = word_message line (form_of line) (odd_word line)

abbrev pub misplaced_message : List ℕ → TextLine → List ℕ
misplaced_message bytes line = misplaced_by (owed_at bytes line.number) line

-- a further line must follow, by what is owed
abbrev pub end_message : ℕ → Owed → List ℕ
end_message number Version = end_sentence number (codes "the first line must be 'oa 1' or 'oa 2'")
end_message number Gen = end_sentence number (codes "'gen' must follow the op line")
end_message number Wrap = end_sentence number (codes "'wrap' and the wrap-up must follow the generator")
end_message number Instruction = end_sentence number (codes "an instruction must follow 'wrap'")
end_message number Entry = end_sentence number (codes "an entry of the commit, 'with' or 'withroot', must follow")
end_message number Call = end_sentence number (codes "a further line must follow")
end_message number Nothing = end_sentence number (codes "a further line must follow")
