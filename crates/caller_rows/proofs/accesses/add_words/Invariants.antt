use Rattle.std.proofs.Common.{◌≡◌, length}
use Rattle.caller_rows.proofs.accesses.add_words.Given as goal

abbrev pub invariant-loop-at : goal.invariant-loop-at
invariant-loop-at l = length l.words ≡ l.count
