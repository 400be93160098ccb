-- The numbers of the statuses.
use Rattle.std.specs.Prelude.{ℕ}
use Rattle.statuses.specs.declared.status.Status.{Status}
use Rattle.statuses.specs.declared.status.Status.TheVariants.{Done, Partial, Usage, ReadFault, LongInput, BadDocument, Refused, BadShape, WriteFault, Memory, Rejected}

-- the number of a status
abbrev pub number_of : Status → ℕ
number_of Done = 0
number_of Partial = 1
number_of Usage = 2
number_of ReadFault = 3
number_of LongInput = 4
number_of (BadDocument line fault) = 5
number_of (Refused refusal) = 6
number_of (BadShape number at) = 7
number_of WriteFault = 8
number_of Memory = 9
number_of (Rejected number at) = 11
