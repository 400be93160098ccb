use Rattle.phase_pools.specs.Ranges.{SweepInRange}
use Rattle.pool_tests.proofs.runs.sweeps_on.Given as goal

abbrev pub invariant-loop-access : goal.invariant-loop-access
invariant-loop-access g l = SweepInRange l.shape l.sweep.stage
