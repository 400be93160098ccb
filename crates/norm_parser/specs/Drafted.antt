-- A draft, unless its lines couldn't be read.
use Rattle.std.specs.Prelude.{Result, Ok, Err}
use Rattle.line_words.specs.declared.fault.ParseError.{ParseError}
use Rattle.norm_parser.specs.declared.draft.Draft.{Draft}

abbrev pub draft_if : Draft → Result (Unit {0}) ParseError → Result Draft ParseError
draft_if draft (Ok u) = Ok draft
draft_if draft (Err error) = Err error
