use Rattle.std.proofs.Common.{◌≡◌, filter, slice_get}
use Rattle.message_lines.specs.Places.{declares_kind, line_that}
use Rattle.message_lines.proofs.lines.kind_line.Given as goal

abbrev pub invariant-loop-line : goal.invariant-loop-line
invariant-loop-line l = slice_get (filter (declares_kind l.before l.name) l.line-iterator) 0 ≡ line_that (declares_kind l.before l.name) l.bytes 0
