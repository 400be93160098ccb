use Rattle.std.proofs.Common.{◌≡◌, [], replicate}
use Rattle.proper_judge.proofs.judging.first_kept.Given as goal

abbrev pub invariant-loop : goal.invariant-loop
invariant-loop l = l.runs.items ≡ replicate l.counter (record { got = []; before = 0 })
