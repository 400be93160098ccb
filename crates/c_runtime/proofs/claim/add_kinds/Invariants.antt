use Rattle.std.proofs.Common.{◌≡◌, ◌++◌, ◌-◌}
use Rattle.c_runtime.specs.KindLines.{kind_lines}
use Rattle.c_runtime.specs.ClaimLines.{push_line}
use Rattle.c_runtime.proofs.claim.add_kinds.Given as goal

-- what is left gives what the whole gives
abbrev pub invariant-loop-kind : goal.invariant-loop-kind
invariant-loop-kind l = l.lines.items ++ kind_lines push_line l.kind (l.kinds - l.kind) ≡ l.fn.lines.items ++ kind_lines push_line 0 l.kinds
