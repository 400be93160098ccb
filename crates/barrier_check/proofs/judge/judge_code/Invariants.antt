use Rattle.target_code.specs.Barred.{HasFlaw}
use Rattle.barrier_check.specs.Scopes.{IsClear}
use Rattle.barrier_check.proofs.Parts.{Above}
use Rattle.barrier_check.proofs.judge.judge_code.Given as goal

-- nothing above the next instruction has a flaw
abbrev pub invariant-loop-at : goal.invariant-loop-at
invariant-loop-at l = IsClear (HasFlaw l.subject.target.now l.subject.text.now) (Above l.subject.number l.wrapup l.at)
