use Rattle.std.proofs.Common.{◌≡◌, filter, slice_get}
use Rattle.message_lines.specs.Places.{line_that}
use Rattle.messages.specs.Turns.{is_turn_after}
use Rattle.messages.proofs.turns.turn_line.Given as goal

abbrev pub invariant-loop-line : goal.invariant-loop-line
invariant-loop-line l = slice_get (filter (is_turn_after l.after) l.line-iterator) l.left ≡ line_that (is_turn_after l.after) l.bytes l.fn.at
