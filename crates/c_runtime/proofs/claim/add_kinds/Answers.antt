use Rattle.std.proofs.Common.{◌++◌}
use Rattle.c_runtime.specs.KindLines.{kind_lines}
use Rattle.c_runtime.specs.ClaimLines.{push_line}
use Rattle.c_runtime.proofs.KindSteps.{kind_on}
use Rattle.c_runtime.proofs.claim.add_kinds.Goals as goal

pub loop-kind-preserved : goal.loop-kind-preserved
loop-kind-preserved c =
    kind_on c.loop-kind.lines.items c.extend_from_slice.new.self.items (c.args.lines.now.items ++ kind_lines push_line 0 c.args.kinds) push_line c.loop-kind.kind c.args.kinds
    c.kind_jump.result c.loop-kind-test.true c.kind_jump.ensures c.in_ok-extend_from_slice.ensures.items c.loop-kind.invariant
