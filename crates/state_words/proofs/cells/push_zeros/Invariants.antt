use Rattle.std.proofs.Common.{◌≡◌, ◌++◌, replicate}
use Rattle.state_words.proofs.cells.push_zeros.Given as goal

abbrev pub invariant-loop : goal.invariant-loop
invariant-loop l = l.cells.items ≡ l.fn.cells.items ++ replicate l.counter 0
