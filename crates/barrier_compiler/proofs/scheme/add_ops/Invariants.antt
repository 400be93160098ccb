use Rattle.std.proofs.Common.{◌≡◌, ◌++◌, drop, map}
use Rattle.target_code.specs.Blocks.{scheme_op}
use Rattle.target_code.specs.SecondScheme.{second_marks}
use Rattle.barrier_compiler.proofs.scheme.add_ops.Given as goal

-- what is left gives what the whole gives
abbrev pub invariant-loop-number : goal.invariant-loop-number
invariant-loop-number l = l.compiled ++ map (scheme_op second_marks) (drop l.number l.ops) ≡ l.fn.compiled ++ map (scheme_op second_marks) l.normal.ops
