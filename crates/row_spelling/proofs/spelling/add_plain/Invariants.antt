use Rattle.std.proofs.Common.{◌≡◌, ◌++◌, take}
use Rattle.row_spelling.specs.Spelling.{plain_spelled}
use Rattle.row_spelling.proofs.spelling.add_plain.Given as goal

abbrev pub invariant-loop-b : goal.invariant-loop-b
invariant-loop-b l = l.out.items ≡ l.fn.out.items ++ plain_spelled l.copy (take l.b-index l.bytes)
