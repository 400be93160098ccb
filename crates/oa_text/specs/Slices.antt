-- Where a line's tokens stand in it.
use Rattle.std.specs.Prelude.{◌≡◌, ℕ, ◌+◌, ◌-◌, ◌<◌, ◌≤◌, List, length, take, drop, slice_index, ◌⊎◌, IsTrue}
use Rattle.std.specs.List.{All, Any, list_all}
use Rattle.oa_text.specs.Tokens.{TextToken, is_blank, is_ink, is_edge, end_column, tokens_of}

-- a token is a slice of the line, without a blank, and maximal: blanks or the line's ends stand round it
pub record IsTokenOf (bytes : List ℕ) (token : TextToken) : Type 0 where
  pub place : 1 ≤ token.column
  pub some : 0 < length token.bytes
  pub inked : IsTrue (list_all is_ink token.bytes)
  pub slice : take (length token.bytes) (drop (token.column - 1) bytes) ≡ token.bytes
  pub before : (token.column ≡ 1) ⊎ IsTrue (is_blank (slice_index bytes (token.column - 2)))
  pub after : IsTrue (is_edge (drop (end_column token - 1) bytes))

-- each token of each line is such a slice
abbrev pub TokensAreSlices : Type 0
TokensAreSlices = (bytes : List ℕ) → All (IsTokenOf bytes) (tokens_of bytes)

-- the byte of this column is one of the token's
abbrev pub Spans : ℕ → TextToken → Type 0
Spans column token = (token.column ≤ column) × (column < end_column token)

-- each byte of each line is a blank or a token's
abbrev pub TokensHoldAll : Type 0
TokensHoldAll =
    (bytes : List ℕ) (k : ℕ) → k < length bytes → IsTrue (is_ink (slice_index bytes k)) → Any (Spans (k + 1)) (tokens_of bytes)
