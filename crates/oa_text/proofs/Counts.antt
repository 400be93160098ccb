-- How many lines a text has, and how many tokens a line.
use Rattle.std.proofs.Common.{ℕ, suc, ◌+◌, ◌≤◌, true, false, cond, List, [], ◌∷◌, length, eqb, arith}
use Rattle.std.proofs.lemmas.List.{length-map}
use Rattle.oa_text.specs.Lines.{onto, lines_of}
use Rattle.oa_text.specs.Tokens.{TextToken, is_blank, joined, tokens_from, tokens_of, words_of}

onto_le : (b : ℕ) (lines : List (List ℕ)) → length (onto b lines) ≤ suc (length lines)
onto_le b [] = omega arith
onto_le b (line ∷ lines) = omega arith

-- no more lines than bytes
pub length-lines_of-le : (bytes : List ℕ) → length (lines_of bytes) ≤ length bytes
length-lines_of-le [] = omega arith
length-lines_of-le (b ∷ bytes) =
    let rest : length (lines_of bytes) ≤ length bytes = length-lines_of-le bytes in
    elim (eqb b 10) as (λ t. length (cond t ([] ∷ lines_of bytes) (onto b (lines_of bytes))) ≤ suc (length bytes)) [
      | true ↦ omega arith
      | false ↦ omega (arith, onto_le b (lines_of bytes))
    ]

joined_le : (c b : ℕ) (tokens : List TextToken) → length (joined c b tokens) ≤ suc (length tokens)
joined_le c b [] = omega arith
joined_le c b (token ∷ tokens) =
    elim (eqb token.column (c + 1)) as (λ t. length (cond t (record { column = c; bytes = b ∷ token.bytes } ∷ tokens) (record { column = c; bytes = b ∷ [] } ∷ token ∷ tokens)) ≤ suc (suc (length tokens))) [
      | true ↦ omega arith
      | false ↦ omega arith
    ]

-- no more tokens than bytes
pub length-tokens_from-le : (c : ℕ) (bytes : List ℕ) → length (tokens_from c bytes) ≤ length bytes
length-tokens_from-le c [] = omega arith
length-tokens_from-le c (b ∷ bytes) =
    let rest : length (tokens_from (c + 1) bytes) ≤ length bytes = length-tokens_from-le (c + 1) bytes in
    elim (is_blank b) as (λ t. length (cond t (tokens_from (c + 1) bytes) (joined c b (tokens_from (c + 1) bytes))) ≤ suc (length bytes)) [
      | true ↦ omega arith
      | false ↦ omega (arith, joined_le c b (tokens_from (c + 1) bytes))
    ]

pub length-tokens_of-le : (bytes : List ℕ) → length (tokens_of bytes) ≤ length bytes
length-tokens_of-le bytes = length-tokens_from-le 1 bytes

pub length-words_of-le : (bytes : List ℕ) → length (words_of bytes) ≤ length bytes
length-words_of-le bytes = omega (arith, length-map (tokens_of bytes) (λ (token : TextToken). token.bytes), length-tokens_of-le bytes)

-- for a caller of `lines`: a text that is short enough has few enough lines
pub ruleset counts = (length-lines_of-le, length-tokens_of-le, length-words_of-le)
