-- What contracts see of the first line that has a fault.
use Rattle.norm_lang.specs.Faults.{LineFault}
use Rattle.line_words.specs.declared.fault.ParseFault.{ParseFault}

-- a line and the number of its fault
abbrev pub fault_shown : ParseFault → LineFault
fault_shown fault = record { line = fault.line; number = fault.number }
