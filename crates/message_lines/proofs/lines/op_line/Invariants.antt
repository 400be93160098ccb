use Rattle.std.proofs.Common.{◌≡◌, filter, slice_get}
use Rattle.message_lines.specs.Places.{declares_op, line_that}
use Rattle.message_lines.proofs.lines.op_line.Given as goal

abbrev pub invariant-loop-line : goal.invariant-loop-line
invariant-loop-line l = slice_get (filter (declares_op l.name) l.line-iterator) 0 ≡ line_that (declares_op l.name) l.bytes 0
