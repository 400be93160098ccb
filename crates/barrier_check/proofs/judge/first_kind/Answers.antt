use Rattle.std.proofs.Common.{rules}
use Rattle.barrier_check.proofs.judge.first_kind.Goals as goal

pub returns-then-answers-offset0 : goal.returns-then-answers-offset0
returns-then-answers-offset0 c = search rules

pub returns-then-answers-offset1 : goal.returns-then-answers-offset1
returns-then-answers-offset1 c = search rules

pub returns-then-answers-offset2 : goal.returns-then-answers-offset2
returns-then-answers-offset2 c = search rules

pub returns-then-answers-offset3 : goal.returns-then-answers-offset3
returns-then-answers-offset3 c = search rules
