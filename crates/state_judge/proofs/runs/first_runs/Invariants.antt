use Rattle.std.proofs.Common.{◌≡◌, length}
use Rattle.state_judge.proofs.Breaching.{AreEmpty}
use Rattle.state_judge.proofs.runs.first_runs.Given as goal

abbrev pub invariant-loop : goal.invariant-loop
invariant-loop l = record { empty : AreEmpty l.runs; many : length l.runs ≡ l.counter }
