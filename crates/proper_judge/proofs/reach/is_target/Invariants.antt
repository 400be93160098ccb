use Rattle.std.proofs.Common.{◌≡◌, drop}
use Rattle.source_machine.specs.Proper.{has}
use Rattle.proper_judge.specs.Reach.{targets}
use Rattle.proper_judge.proofs.reach.is_target.Given as goal

abbrev pub invariant-loop-value : goal.invariant-loop-value
invariant-loop-value l = has l.name (targets (drop l.value-index l.values)) ≡ has l.name (targets l.values)
