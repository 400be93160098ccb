use Rattle.std.proofs.Common.{◌≡◌, take}
use Rattle.std.specs.String.{string_bytes}
use Rattle.row_spelling.specs.OneLine.{one_line}
use Rattle.row_spelling.proofs.spelling.one_line.Given as goal

abbrev pub invariant-loop-b : goal.invariant-loop-b
invariant-loop-b l = string_bytes l.line ≡ one_line (take l.b-index l.bytes)
