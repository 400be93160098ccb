use Rattle.barrier_check.specs.Comparing.{AreSameBelow}
use Rattle.barrier_check.proofs.erasing.compare_ops.Given as goal

-- what is left of the first operations is the text's
abbrev pub invariant-loop-number : goal.invariant-loop-number
invariant-loop-number l = AreSameBelow l.target l.text l.number
