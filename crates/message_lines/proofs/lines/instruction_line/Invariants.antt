use Rattle.std.proofs.Common.{◌≡◌, filter, slice_get}
use Rattle.message_lines.specs.Places.{is_instruction_after, line_that}
use Rattle.message_lines.proofs.lines.instruction_line.Given as goal

abbrev pub invariant-loop-line : goal.invariant-loop-line
invariant-loop-line l = slice_get (filter (is_instruction_after l.after) l.line-iterator) l.left ≡ line_that (is_instruction_after l.after) l.bytes l.fn.at
