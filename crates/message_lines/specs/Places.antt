-- The lines of bytes and their words, by their places.
use Rattle.std.specs.Prelude.{ℕ, Bool, false, not, ◌&&◌, ◌||◌, List, [], ◌∷◌, filter, get_or, drop, length, Option, Some, None, slice_get, codes, nat_lt, nat_le, ◌==◌, if◌then◌else◌}
use Rattle.std.specs.List.{prefix_len}
use Rattle.std.specs.Str.{bytes_eq}
use Rattle.oa_text.specs.declared.fault.TextFault.{TextFault}
use Rattle.oa_text.specs.Lines.{TextLine, lines_of, numbered}
use Rattle.oa_text.specs.Numbers.{is_numeral, number_of, fitting}
use Rattle.oa_text.specs.Tokens.{is_blank, words_of, line_fault}
use Rattle.oa_words.specs.declared.limits.TheConstants.{MOST_SLOTS}

-- what is found, and then what is found after it
infixl 10 ◌>>=◌
abbrev pub ◌>>=◌ : {A B : Type 0} → Option A → (A → Option B) → Option B
None >>= f = None
(Some x) >>= f = f x

-- the words of bytes without a fault
abbrev pub words_if : Option TextFault → List ℕ → List (List ℕ)
words_if None bytes = words_of bytes
words_if (Some fault) bytes = []

-- the word at a place of a line, from 0: no bytes if there are fewer, or if the line's bytes have a fault
abbrev pub word_at : TextLine → ℕ → List ℕ
word_at line at = get_or (words_if (line_fault line) line.bytes) at []

-- a line as it is spelled, from its first word on
abbrev pub trimmed : TextLine → List ℕ
trimmed line = drop (prefix_len is_blank line.bytes) line.bytes

-- a word that doesn't begin with `#`
abbrev pub is_said_word : List ℕ → Bool
is_said_word [] = false
is_said_word (b ∷ bytes) = not (b == 35)

-- a line says something: it has a word, and its first doesn't begin with `#`
abbrev pub is_said : TextLine → Bool
is_said line = is_said_word (word_at line 0)

-- a line begins with this word
abbrev pub begins : List ℕ → TextLine → Bool
begins word line = bytes_eq (word_at line 0) word

-- a line past this number begins with this word
abbrev pub begins_after : ℕ → List ℕ → TextLine → Bool
begins_after after word line = nat_lt after line.number && begins word line

-- a line is an entry of a commit
abbrev pub is_entry : TextLine → Bool
is_entry line = begins (codes "with") line || begins (codes "withroot") line

-- a line past this number is an instruction of a method: it says something, and is no entry of a commit
abbrev pub is_instruction_after : ℕ → TextLine → Bool
is_instruction_after after line = nat_lt after line.number && (is_said line && not (is_entry line))

-- a line has this number
abbrev pub is_numbered : ℕ → TextLine → Bool
is_numbered number line = line.number == number

-- of the lines that pass a test the one at a place, from 0
abbrev pub line_that : (TextLine → Bool) → List ℕ → ℕ → Option TextLine
line_that test bytes at = slice_get (filter test (numbered 1 (lines_of bytes))) at

-- a line above this number declares a kind so named
abbrev pub declares_kind : ℕ → List ℕ → TextLine → Bool
declares_kind before name line = nat_lt line.number before && (begins (codes "kind") line && bytes_eq (word_at line 1) name)

-- a line declares an operation so named
abbrev pub declares_op : List ℕ → TextLine → Bool
declares_op name line = begins (codes "op") line && bytes_eq (word_at line 1) name

-- what a word says as a number: nothing if it isn't spelled as one, and no number of 64 bits if it is too large
abbrev pub number_said : List ℕ → Option (Option ℕ)
number_said word = if is_numeral word then Some (fitting (number_of word)) else None

-- a kind may have so many slots
abbrev pub is_slots_said : Option (Option ℕ) → Bool
is_slots_said (Some (Some n)) = nat_le 1 n && nat_le n MOST_SLOTS
is_slots_said (Some None) = false
is_slots_said None = false

-- the count of a `slots` line: its last word, the second or, after a kind, the third
abbrev pub count_word : TextLine → List ℕ
count_word line = if length (word_at line 2) == 0 then word_at line 1 else word_at line 2

-- a `slots` line whose count is out of range
abbrev pub is_wrong_slots : TextLine → Bool
is_wrong_slots line = begins (codes "slots") line && not (is_slots_said (number_said (count_word line)))
