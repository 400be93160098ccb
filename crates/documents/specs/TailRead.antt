-- A tail, unless it couldn't be read.
use Rattle.std.specs.Prelude.{Result, Ok, Err}
use Rattle.line_words.specs.declared.fault.ParseError.{ParseError}
use Rattle.documents.specs.declared.tail.Tail.{Tail}

abbrev pub tail_if : Tail → Result (Unit {0}) ParseError → Result Tail ParseError
tail_if tail (Ok u) = Ok tail
tail_if tail (Err error) = Err error
