use Rattle.std.proofs.Common.{◌≡◌, ◌+◌, ◌-◌, ◌++◌}
use Rattle.c_emission.specs.Blocks.{copy_lines}
use Rattle.c_emission.proofs.operations.add_copies.Given as goal

abbrev pub invariant-loop-copied : goal.invariant-loop-copied
invariant-loop-copied l =
    l.lines.items ++ copy_lines (l.to + l.copied) (l.from + l.copied) (l.count - l.copied) ≡ l.fn.lines.items ++ copy_lines l.to l.from l.count
