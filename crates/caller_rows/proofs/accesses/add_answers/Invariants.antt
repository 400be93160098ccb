use Rattle.std.proofs.Common.{◌≡◌, length}
use Rattle.caller_rows.proofs.accesses.add_answers.Given as goal

abbrev pub invariant-loop-text : goal.invariant-loop-text
invariant-loop-text l = length l.words ≡ l.count
