use Rattle.std.proofs.Common.{List, length, ap, arith}
use Rattle.target_code.specs.declared.target.TargetOp.{TargetOp}
use Rattle.barrier_check.proofs.Differing.{all_same}
use Rattle.barrier_check.proofs.erasing.compare_ops.Goals as goal

pub returns : goal.returns
returns c =
    all_same c.args.target.now c.args.text.now c.loop-number.number c.requires.alike
    (omega (arith, c.loop-number-test.false, c.loop-number.auto.number-end, ap (λ (xs : List TargetOp). length xs) c.items-ops.ensures))
    c.loop-number.invariant
