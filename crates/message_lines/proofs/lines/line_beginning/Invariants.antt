use Rattle.std.proofs.Common.{◌≡◌, filter, slice_get}
use Rattle.message_lines.specs.Places.{begins_after, line_that}
use Rattle.message_lines.proofs.lines.line_beginning.Given as goal

abbrev pub invariant-loop-line : goal.invariant-loop-line
invariant-loop-line l = slice_get (filter (begins_after l.after l.word) l.line-iterator) l.left ≡ line_that (begins_after l.after l.word) l.bytes l.fn.at
