use Rattle.std.proofs.Common.{◌≡◌, ◌+◌, length}
use Rattle.oa_text.specs.Lines.{lines_of}
use Rattle.norm_parser.proofs.cursor.number_past.Given as goal

abbrev pub invariant-loop : goal.invariant-loop
invariant-loop l = l.past + length l.iterator' ≡ length (lines_of l.input) + 1
