-- The faults of a line by their numbers, and those of a text.
use Rattle.std.specs.Prelude.{ℕ}
use Rattle.norm_lang.specs.Faults.{byte_fault, number_fault, line_long, form_fault, unknown_name, repeated, too_many, mismatch}
use Rattle.line_words.specs.declared.fault.Fault.{Fault}
use Rattle.line_words.specs.declared.fault.Fault.TheVariants as faults
use Rattle.line_words.specs.declared.fault.Stop.{Stop}
use Rattle.line_words.specs.declared.fault.Stop.TheVariants as stops
use Rattle.line_words.specs.declared.fault.ParseError.{ParseError}
use Rattle.line_words.specs.declared.fault.ParseError.TheVariants as errors

-- the grammar's number of a fault
abbrev pub number_of_fault : Fault → ℕ
number_of_fault faults.Byte = byte_fault
number_of_fault faults.Number = number_fault
number_of_fault faults.LineLong = line_long
number_of_fault faults.Form = form_fault
number_of_fault faults.UnknownName = unknown_name
number_of_fault faults.Repeated = repeated
number_of_fault faults.TooMany = too_many
number_of_fault faults.Mismatch = mismatch

-- where a line's reader stopped, with the line
abbrev pub stopped_at : ℕ → Stop → ParseError
stopped_at line stops.Memory = errors.Memory
stopped_at line (stops.Fault fault) = errors.Fault (record { line = line; number = number_of_fault fault })
