use Rattle.std.proofs.Common.{List, length, ap, arith}
use Rattle.norm_lang.specs.declared.text.Op.{Op}
use Rattle.norm_paths.proofs.Founding.{op_within}
use Rattle.norm_check.proofs.Tables.{item_stands}
use Rattle.target_code.specs.declared.target.TargetOp.{TargetOp}
use Rattle.barrier_check.proofs.Tables.{target_op_within}
use Rattle.barrier_check.proofs.judge.judge_ops.Goals as goal

pub judge_op-requires-clause-within : goal.judge_op-requires-clause-within
judge_op-requires-clause-within c =
    op_within c.args.text.now c.loop-number.number c.index-sources-number.result c.requires.text
    (item_stands c.args.text.now.ops c.items-sources.result.now c.loop-number.number c.index-sources-number.result _ c.items-sources.ensures
    (omega (arith, c.loop-number-test.true, c.loop-number.auto.number-end, ap (λ (xs : List TargetOp). length xs) c.items-ops.ensures, ap (λ (xs : List Op). length xs) c.items-sources.ensures, c.requires.count))
    c.index-sources-number.is)

pub judge_op-requires-clause-limits : goal.judge_op-requires-clause-limits
judge_op-requires-clause-limits c =
    target_op_within c.args.target.now c.loop-number.number c.index-ops-number.result c.requires.target
    (item_stands c.args.target.now.ops c.items-ops.result.now c.loop-number.number c.index-ops-number.result _ c.items-ops.ensures
    (omega (arith, c.loop-number-test.true, c.loop-number.auto.number-end)) c.index-ops-number.is)
