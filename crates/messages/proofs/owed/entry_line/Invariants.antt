use Rattle.std.proofs.Common.{◌≡◌, filter, slice_get}
use Rattle.messages.specs.Owed.{is_entry_between}
use Rattle.message_lines.specs.Places.{line_that}
use Rattle.messages.proofs.owed.entry_line.Given as goal

abbrev pub invariant-loop-line : goal.invariant-loop-line
invariant-loop-line l = slice_get (filter (is_entry_between l.after l.number) l.line-iterator) l.left ≡ line_that (is_entry_between l.after l.number) l.bytes l.fn.at
