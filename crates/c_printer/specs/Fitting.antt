-- Which lines a header can print: their numbers fit 64 bits, and their locals are in the table.
use Rattle.std.specs.Prelude.{ℕ, ◌^◌, Bool, true, ◌&&◌, List, length, nat_lt, nat_le}
use Rattle.std.specs.List.{list_all}
use Rattle.c_language.specs.declared.lines.Parameter.{Parameter}
use Rattle.c_language.specs.declared.lines.Parameter.TheVariants as parameters
use Rattle.c_language.specs.declared.lines.Operand.{Operand}
use Rattle.c_language.specs.declared.lines.Operand.TheVariants as operands
use Rattle.c_language.specs.declared.lines.Line.{Line}
use Rattle.c_printer.specs.declared.tokens.Entry.{Entry}
use Rattle.c_printer.specs.declared.tokens.Entry.TheVariants as entries
use Rattle.c_printer.specs.declared.tokens.Token.{Token}
use Rattle.c_printer.specs.declared.tokens.Token.TheVariants as tokens
use Rattle.c_printer.specs.Tokens.{line_tokens}

abbrev pub fits_word : ℕ → Bool
fits_word n = nat_lt n (2 ^ 64)

abbrev pub is_fitting_parameter : Parameter → Bool
is_fitting_parameter (parameters.FirstSlot k) = fits_word k
is_fitting_parameter _ = true

abbrev pub is_fitting_operand : List (List ℕ) → Operand → Bool
is_fitting_operand names (operands.Number n) = fits_word n
is_fitting_operand names (operands.Local d) = nat_lt d (length names)
is_fitting_operand names (operands.Of parameter) = is_fitting_parameter parameter

abbrev pub is_fitting_entry : Entry → Bool
is_fitting_entry (entries.Claim function) = fits_word function
is_fitting_entry _ = true

abbrev pub is_fitting : List (List ℕ) → Token → Bool
is_fitting names (tokens.Sign sign) = true
is_fitting names (tokens.Operand operand) = is_fitting_operand names operand
is_fitting names (tokens.Label l) = fits_word l
is_fitting names (tokens.Field k) = fits_word k
is_fitting names (tokens.Below k) = fits_word k
is_fitting names (tokens.Stride k) = fits_word k
is_fitting names (tokens.Entry entry) = is_fitting_entry entry

abbrev pub is_fitting_line : List (List ℕ) → Line → Bool
is_fitting_line names line = list_all (is_fitting names) (line_tokens line)

-- the lines of a function, which are no more than labels can count
abbrev pub is_fitting_code : List (List ℕ) → List Line → Bool
is_fitting_code names code = nat_le (length code) (2 ^ 64) && list_all (is_fitting_line names) code
