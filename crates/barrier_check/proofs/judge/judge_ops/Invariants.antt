use Rattle.target_code.specs.Barred.{HasFlaw}
use Rattle.barrier_check.specs.Scopes.{IsClear}
use Rattle.barrier_check.proofs.Parts.{Earlier}
use Rattle.barrier_check.proofs.judge.judge_ops.Given as goal

-- the first operations have no flaw
abbrev pub invariant-loop-number : goal.invariant-loop-number
invariant-loop-number l = IsClear (HasFlaw l.target l.text) (Earlier l.number)
