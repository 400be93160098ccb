-- What is wrong with a line, and the sentence on it.
use Rattle.std.specs.Prelude.{ℕ, ◌-◌, Bool, ◌||◌, ◌&&◌, not, List, [], ◌∷◌, length, Option, Some, None, is_some, slice_index, codes, decimal, ◌==◌, if◌then◌else◌}
use Rattle.std.specs.List.{concat}
use Rattle.oa_text.specs.declared.fault.TextFault.{TextFault}
use Rattle.oa_text.specs.declared.fault.TextFault.TheVariants as faults
use Rattle.oa_text.specs.Lines.{TextLine}
use Rattle.oa_text.specs.Tokens.{line_fault}
use Rattle.messages.specs.declared.faults.OddByte.{OddByte}
use Rattle.messages.specs.declared.faults.NamedWord.{NamedWord}
use Rattle.messages.specs.declared.faults.NamedWord.TheVariants.{Field, Root, Kind, Node, Operation, Unknown}
use Rattle.message_lines.specs.Places.{word_at, begins, declares_kind, line_that}

-- ---- a byte that may not stand in a line

abbrev pub odd_of : Option TextFault → List ℕ → Option OddByte
odd_of None bytes = None
odd_of (Some (faults.Byte line column)) bytes = Some (record { column = column; byte = slice_index bytes (column - 1) })
odd_of (Some (faults.Number line column)) bytes = None
odd_of (Some (faults.LineLong line column)) bytes = None

-- the first byte of a line that may not stand in one, if that is what is wrong with the line, and the byte's column, from 1
abbrev pub odd_byte : TextLine → Option OddByte
odd_byte line = odd_of (line_fault line) line.bytes

-- what a byte is called, if it is one that editors put in unseen
unfoldable pub byte_words : ℕ → List ℕ
byte_words byte = if byte == 13 then codes ", a carriage return," else []

unfoldable pub byte_mend : ℕ → List ℕ
byte_mend byte = if byte == 13 then codes "End each line by a newline alone" else codes "Write plain characters, in comments too"

-- which byte of a line may not stand there, and how to mend it
abbrev pub byte_sentence : TextLine → OddByte → List ℕ
byte_sentence line odd = concat (
    codes "oa: line " ∷ decimal line.number ∷ codes " is at fault: its byte " ∷ decimal odd.byte ∷ byte_words odd.byte ∷ codes " at column " ∷ decimal odd.column
    ∷ codes " is neither a tab nor one from space (32) to ~ (126). " ∷ byte_mend odd.byte ∷ codes "; see 'Faults' in docs/language.md.\n" ∷ [])

-- ---- a name that isn't declared

-- a kind so named is declared above a line
abbrev pub is_declared : List ℕ → ℕ → List ℕ → Bool
is_declared bytes before name = is_some (line_that (declares_kind before name) bytes 0)

-- `field KIND NAME ref KIND`: the first of the kinds that isn't declared above
abbrev pub field_kind : List ℕ → TextLine → NamedWord
field_kind bytes line = if is_declared bytes line.number (word_at line 1) then Kind 4 else Kind 1

-- `root D X`, `root NAME ref @J`, `root NAME ref KIND @J`: the root, the node, or the kind, if it isn't declared above, and else the node
abbrev pub root_named : List ℕ → TextLine → NamedWord
root_named bytes line =
    if length (word_at line 3) == 0 then Root 2
    else (if length (word_at line 4) == 0 then Node 3
    else (if is_declared bytes line.number (word_at line 3) then Node 4
    else Kind 3))

-- what a line names that may be undeclared, by its first word: which sort of thing, and its word's place. A `node` line may name several, of which
-- `stray_word` is the first that doesn't exist
abbrev pub named_word : List ℕ → TextLine → NamedWord
named_word bytes line =
    if begins (codes "load") line then Field 3
    else (if begins (codes "put") line || (begins (codes "cas") line || begins (codes "with") line) then Field 2
    else (if begins (codes "pick") line then Root 2
    else (if begins (codes "casroot") line || begins (codes "withroot") line then Root 1
    else (if begins (codes "new") line then Kind 2
    else (if begins (codes "nodes") line || begins (codes "slots") line then Kind 1
    else (if begins (codes "begin") line then Operation 2
    else (if begins (codes "field") line then field_kind bytes line
    else (if begins (codes "root") line then root_named bytes line
    else Unknown))))))))

-- which word of a line names nothing that is declared, of this sort
abbrev pub unknown_sentence : TextLine → List ℕ → List ℕ → List ℕ
unknown_sentence line sort word = concat (
    codes "oa: line " ∷ decimal line.number ∷ codes " is at fault: it names the " ∷ sort ∷ codes " '" ∷ word
    ∷ codes "', which is not declared. Declare it above, or spell it as it is declared; see 'Faults' in docs/language.md.\n" ∷ [])

-- ---- a name that is declared again

-- the place of the name that a line declares: after the kind that a field line of the second version names, else right after the first word
unfoldable pub repeated_place : TextLine → ℕ
repeated_place line = if begins (codes "field") line && not (length (word_at line 3) == 0) then 2 else 1

abbrev pub repeated_sentence : TextLine → List ℕ
repeated_sentence line = concat (
    codes "oa: line " ∷ decimal line.number ∷ codes " is at fault: it declares '" ∷ word_at line (repeated_place line)
    ∷ codes "', which is declared already. Give it a name of its own; see 'Faults' in docs/language.md.\n" ∷ [])
