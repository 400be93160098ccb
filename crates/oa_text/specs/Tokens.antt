-- The tokens of a line, and what can be wrong with its bytes.
use Rattle.std.specs.Prelude.{ℕ, ◌+◌, Bool, true, ◌||◌, ◌&&◌, not, List, [], ◌∷◌, map, length, Option, Some, None, nat_lt, nat_le, ◌==◌, if◌then◌else◌}
use Rattle.oa_text.specs.Lines.{TextLine}
use Rattle.oa_text.specs.declared.limits.TheConstants.{LONGEST_LINE}
use Rattle.oa_text.specs.declared.fault.TextFault.{TextFault}
use Rattle.oa_text.specs.declared.fault.TextFault.TheVariants as faults

-- a run of bytes other than space and tab, with the column of its first byte
pub record TextToken : Type 0 where
  pub column : ℕ
  pub bytes : List ℕ

abbrev pub is_blank : ℕ → Bool
is_blank b = (b == 32) || (b == 9)

-- a byte of a token
abbrev pub is_ink : ℕ → Bool
is_ink b = not (is_blank b)

-- bytes that end, or begin with a blank
abbrev pub is_edge : List ℕ → Bool
is_edge [] = true
is_edge (b ∷ bytes) = is_blank b

-- the column right after a token
abbrev pub end_column : TextToken → ℕ
end_column token = token.column + length token.bytes

-- a byte at a column goes on to the token that begins right after it, or is one by itself
abbrev pub joined : ℕ → ℕ → List TextToken → List TextToken
joined column b [] = record { column = column; bytes = b ∷ [] } ∷ []
joined column b (token ∷ tokens) =
    if token.column == column + 1 then record { column = column; bytes = b ∷ token.bytes } ∷ tokens
    else record { column = column; bytes = b ∷ [] } ∷ token ∷ tokens

-- the tokens of bytes that begin at a column: the maximal runs without a blank
abbrev pub tokens_from : ℕ → List ℕ → List TextToken
tokens_from column [] = []
tokens_from column (b ∷ bytes) =
    if is_blank b then tokens_from (column + 1) bytes else joined column b (tokens_from (column + 1) bytes)

-- the tokens of a line
abbrev pub tokens_of : List ℕ → List TextToken
tokens_of bytes = tokens_from 1 bytes

-- the tokens' bytes
abbrev pub words_of : List ℕ → List (List ℕ)
words_of bytes = map (λ token. token.bytes) (tokens_of bytes)

-- a tab, or a byte from space to `~`
abbrev pub is_plain : ℕ → Bool
is_plain b = (b == 9) || (nat_le 32 b && nat_le b 126)

-- the column of the first byte that isn't plain, of bytes that begin at a column
abbrev pub odd_column_from : ℕ → List ℕ → Option ℕ
odd_column_from column [] = None
odd_column_from column (b ∷ bytes) = if is_plain b then odd_column_from (column + 1) bytes else Some column

abbrev pub byte_fault : ℕ → Option ℕ → Option TextFault
byte_fault number None = None
byte_fault number (Some column) = Some (faults.Byte number column)

-- what is wrong with a line's bytes: there are too many, or one isn't plain
abbrev pub line_fault : TextLine → Option TextFault
line_fault line =
    if nat_lt LONGEST_LINE (length line.bytes) then Some (faults.LineLong line.number (LONGEST_LINE + 1))
    else byte_fault line.number (odd_column_from 1 line.bytes)
