use Rattle.std.proofs.Common.{◌≡◌, ◌++◌, drop}
use Rattle.state_words.specs.Cells.{cells_from}
use Rattle.state_words.proofs.cells.cells_of.Given as goal

abbrev pub invariant-loop-byte : goal.invariant-loop-byte
invariant-loop-byte l = l.cells.items ++ cells_from l.high (drop l.byte-index l.word) ≡ cells_from 0 l.word
