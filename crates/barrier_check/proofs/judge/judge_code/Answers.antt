use Rattle.std.proofs.Common.{◌≤◌, length, arith}
use Rattle.std.proofs.lemmas.Result.{err_from_is_err_and}
use Rattle.target_code.specs.Paths.{target_code_of}
use Rattle.barrier_check.proofs.Parts.{flawed_in_method}
use Rattle.norm_check.proofs.Tables.{item_stands}
use Rattle.barrier_check.proofs.Tables.{method_few, target_instr_within}
use Rattle.barrier_check.proofs.judge.judge_code.Goals as goal

pub judge_instr-requires-clause-stands : goal.judge_instr-requires-clause-stands
judge_instr-requires-clause-stands c =
    item_stands (target_code_of c.args.subject.now.op.now c.args.wrapup) c.args.code.now c.loop-at.at c.index-code-at.result _ c.requires.code
    (omega (arith, c.loop-at-test.true, c.loop-at.auto.at-end)) c.index-code-at.is

pub judge_instr-requires-clause-limits : goal.judge_instr-requires-clause-limits
judge_instr-requires-clause-limits c =
    target_instr_within c.args.subject.now.op.now c.args.wrapup c.loop-at.at c.index-code-at.result c.requires.limits
    (item_stands (target_code_of c.args.subject.now.op.now c.args.wrapup) c.args.code.now c.loop-at.at c.index-code-at.result _ c.requires.code
    (omega (arith, c.loop-at-test.true, c.loop-at.auto.at-end)) c.index-code-at.is)

pub judge_instr-requires-clause-few : goal.judge_instr-requires-clause-few
judge_instr-requires-clause-few c =
    let few : length c.args.code.now ≤ 4096 = method_few c.args.subject.now.op.now c.args.wrapup c.args.code.now c.requires.code c.requires.limits in
    omega (arith, few, c.loop-at-test.true, c.loop-at.auto.at-end)

pub returns-in_err-judge_instr : goal.returns-in_err-judge_instr
returns-in_err-judge_instr c =
    let p = err_from_is_err_and c.from_residual.result c.from_residual.ensures.1 in
    rw (p.1, p.2) (flawed_in_method _ c.args.subject.now.number c.args.wrapup c.loop-at.at _ c.loop-at.invariant c.in_err-judge_instr.ensures)
