use Rattle.std.proofs.Common.{◌≤◌, length, arith}
use Rattle.barrier_check.proofs.Tables.{method_some, method_few}
use Rattle.barrier_check.proofs.judge.judge_method.Goals as goal

pub of_code-requires-clause-some : goal.of_code-requires-clause-some
of_code-requires-clause-some c = method_some c.args.subject.now.op.now c.args.wrapup c.target_code_of-code.result.now c.target_code_of-code.ensures c.requires.limits

pub of_code-requires-clause-few : goal.of_code-requires-clause-few
of_code-requires-clause-few c =
    let few : length c.target_code_of-code.result.now ≤ 4096 = method_few c.args.subject.now.op.now c.args.wrapup c.target_code_of-code.result.now c.target_code_of-code.ensures c.requires.limits in
    omega (arith, few)
