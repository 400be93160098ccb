-- Lines whose first byte is of a word, and the numbers of lines.
use Rattle.std.proofs.Common.{◌≡◌, ℕ, suc, ◌+◌, ◌<◌, ◌^◌, Bool, true, false, List, [], ◌∷◌, length, map, refl, ap, arith, if◌then◌else◌}
use Rattle.std.specs.Prelude.{◌==◌}
use Rattle.oa_text.specs.Lines.{TextLine, numbered}
use Rattle.oa_text.specs.Tokens.{TextToken, is_blank, joined, tokens_from, words_of}
use Rattle.norm_parser.specs.Instruction.{are_skipped, AreFrom}
use Rattle.norm_parser.proofs.LinesLeft.{numbered_from}

-- a byte that goes on to a token, or is one by itself, is the token's first
chosen : (b : ℕ) (touches : Bool) (x y : List ℕ) (column : ℕ) (tokens others : List TextToken) → (b == 35) ≡ false
    → are_skipped (map (λ token. token.bytes) (if touches then record { column = column; bytes = b ∷ x } ∷ tokens else record { column = column; bytes = b ∷ y } ∷ others)) ≡ false
chosen b true x y column tokens others other = other
chosen b false x y column tokens others other = other

begins : (b column : ℕ) (tokens : List TextToken) → (b == 35) ≡ false → are_skipped (map (λ token. token.bytes) (joined column b tokens)) ≡ false
begins b column [] other = other
begins b column (token ∷ tokens) other = chosen b (token.column == column + 1) token.bytes [] column tokens (token ∷ tokens) other

pub stands : (b : ℕ) (bytes whole : List ℕ) → whole ≡ b ∷ bytes → is_blank b ≡ false → (b == 35) ≡ false → are_skipped (words_of whole) ≡ false
stands b bytes whole is blank other =
    let step : are_skipped (words_of (b ∷ bytes)) ≡ false = rw blank (begins b 1 (tokens_from 2 bytes) other) in
    rw is step

pub from_numbered : (n : ℕ) (lines : List (List ℕ)) (whole : List TextLine) → whole ≡ numbered n lines → AreFrom n whole
from_numbered n lines whole is = rw is (numbered_from n lines)

length_numbered : (n : ℕ) (lines : List (List ℕ)) → length (numbered n lines) ≡ length lines
length_numbered n [] = refl
length_numbered n (line ∷ lines) = ap suc (length_numbered (n + 1) lines)

pub few_numbered : (lines : List (List ℕ)) (whole : List TextLine) → whole ≡ numbered 1 lines → length lines + 1 < 2 ^ 32 → 1 + length whole < 2 ^ 32
few_numbered lines whole is few = omega (arith, ap length is, length_numbered 1 lines, few)
