use Rattle.std.proofs.Common.{◌≡◌, filter, option_map}
use Rattle.oa_text.specs.Shown.{line_shown}
use Rattle.messages.specs.Owed.{last_of, last_that, is_mark_above}
use Rattle.messages.proofs.owed.last_mark.Given as goal

abbrev pub invariant-loop-line : goal.invariant-loop-line
invariant-loop-line l = last_of (option_map line_shown l.last) (filter (is_mark_above l.number) l.line-iterator) ≡ last_that (is_mark_above l.number) l.bytes
