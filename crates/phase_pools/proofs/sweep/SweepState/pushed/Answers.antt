use Rattle.std.proofs.Common.{rules}
use Rattle.phase_pools.proofs.sweep.SweepState.pushed.Goals as goal

pub returns-then-word-head_word-clause-same : goal.returns-then-word-head_word-clause-same
returns-then-word-head_word-clause-same c = search rules
