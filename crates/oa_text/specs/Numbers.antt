-- Numbers as tokens.
use Rattle.std.specs.Prelude.{ℕ, ◌+◌, ◌-◌, ◌*◌, ◌^◌, Bool, false, ◌&&◌, List, [], ◌∷◌, length, fold, Option, Some, None, Result, Ok, Err, nat_lt, nat_le, ◌==◌, if◌then◌else◌}
use Rattle.std.specs.List.{list_all}
use Rattle.oa_text.specs.Lines.{TextLine}
use Rattle.oa_text.specs.Tokens.{TextToken}
use Rattle.oa_text.specs.declared.fault.TextFault.{TextFault}
use Rattle.oa_text.specs.declared.fault.TextFault.TheVariants as faults

abbrev pub is_digit : ℕ → Bool
is_digit b = nat_le 48 b && nat_le b 57

-- `0`, or digits that begin with 1 to 9
abbrev pub is_numeral : List ℕ → Bool
is_numeral [] = false
is_numeral (b ∷ bytes) = if b == 48 then length bytes == 0 else is_digit b && list_all is_digit bytes

abbrev pub with_digit : ℕ → ℕ → ℕ
with_digit n b = n * 10 + (b - 48)

-- the number that digits spell, the first digit weighing most
abbrev pub number_of : List ℕ → ℕ
number_of digits = fold with_digit 0 digits

-- a number that fits 64 bits, or none
abbrev pub fitting : ℕ → Option ℕ
fitting n = if nat_lt n (2 ^ 64) then Some n else None

-- a number that fits, or the fault at its token
abbrev pub fits_at : TextLine → TextToken → Option ℕ → Result (Option ℕ) TextFault
fits_at line token None = Err (faults.Number line.number token.column)
fits_at line token (Some n) = Ok (Some n)

-- what a token of a line says as a number: none if it isn't spelled as one
abbrev pub number_read : TextLine → TextToken → Result (Option ℕ) TextFault
number_read line token = if is_numeral token.bytes then fits_at line token (fitting (number_of token.bytes)) else Ok None
