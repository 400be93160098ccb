use Rattle.std.proofs.Common.{◌≡◌, ◌++◌, ◌-◌, length}
use Rattle.oac_cli.specs.Emitted.{counted, kind_stride, strides_of}
use Rattle.oac_cli.proofs.emission.strides_of.Given as goal

abbrev pub invariant-loop-kind : goal.invariant-loop-kind
invariant-loop-kind l = l.strides.items ++ counted (kind_stride l.text) l.kind (length l.text.kinds - l.kind) ≡ strides_of l.text
