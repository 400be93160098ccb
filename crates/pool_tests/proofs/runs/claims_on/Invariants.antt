use Rattle.pool_tests.specs.Told.{StandsInRow}
use Rattle.pool_tests.proofs.runs.claims_on.Given as goal

abbrev pub invariant-loop-access : goal.invariant-loop-access
invariant-loop-access g l = StandsInRow l.shape l.claim
