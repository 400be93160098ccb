use Rattle.std.proofs.Common.{◌≡◌, filter, slice_get}
use Rattle.messages.specs.Owed.{ends_text_above}
use Rattle.message_lines.specs.Places.{line_that}
use Rattle.messages.proofs.owed.text_end.Given as goal

abbrev pub invariant-loop-line : goal.invariant-loop-line
invariant-loop-line l = slice_get (filter (ends_text_above l.number) l.line-iterator) 0 ≡ line_that (ends_text_above l.number) l.bytes 0
