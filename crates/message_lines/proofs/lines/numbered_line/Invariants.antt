use Rattle.std.proofs.Common.{◌≡◌, filter, slice_get}
use Rattle.message_lines.specs.Places.{is_numbered, line_that}
use Rattle.message_lines.proofs.lines.numbered_line.Given as goal

abbrev pub invariant-loop-line : goal.invariant-loop-line
invariant-loop-line l = slice_get (filter (is_numbered l.number) l.line-iterator) 0 ≡ line_that (is_numbered l.number) l.bytes 0
