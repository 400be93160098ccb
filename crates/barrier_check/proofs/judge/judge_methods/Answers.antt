use Rattle.std.proofs.Common.{rules}
use Rattle.barrier_check.proofs.judge.judge_methods.Goals as goal

pub returns-in_err-judge_method : goal.returns-in_err-judge_method
returns-in_err-judge_method c = search rules
