use Rattle.std.proofs.Common.{◌≡◌, filter, slice_get}
use Rattle.message_lines.specs.Places.{is_wrong_slots, line_that}
use Rattle.message_lines.proofs.lines.wrong_slots_line.Given as goal

abbrev pub invariant-loop-line : goal.invariant-loop-line
invariant-loop-line l = slice_get (filter is_wrong_slots l.line-iterator) 0 ≡ line_that is_wrong_slots l.bytes 0
