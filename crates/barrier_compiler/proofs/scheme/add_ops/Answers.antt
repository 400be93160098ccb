use Rattle.std.proofs.Common.{arith}
use Rattle.std.proofs.lemmas.Grind.{common_steps}
use Rattle.norm_paths.proofs.Founding.{op_within}
use Rattle.norm_check.proofs.Tables.{item_stands}
use Rattle.barrier_compiler.proofs.scheme.add_ops.Goals as goal

pub compile_op-requires-clause-within : goal.compile_op-requires-clause-within
compile_op-requires-clause-within c =
    let text = c.text.result.now in
    let op = c.index-ops-number.result in
    op_within text c.loop-number.number op c.text.ensures.within
    (item_stands text.ops c.items-ops.result.now c.loop-number.number op _ c.items-ops.ensures c.loop-number-test.true c.index-ops-number.is)

pub loop-number-preserved : goal.loop-number-preserved
loop-number-preserved c = grind (arith, common_steps)
