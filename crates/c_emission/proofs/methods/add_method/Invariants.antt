use Rattle.std.proofs.Common.{◌≡◌, ◌++◌, drop}
use Rattle.c_emission.specs.Layout.{all_lines, blocks_from}
use Rattle.c_emission.proofs.methods.add_method.Given as goal

abbrev pub invariant-loop-at : goal.invariant-loop-at
invariant-loop-at l = l.lines.items ++ all_lines (blocks_from l.layout l.at (drop l.at l.layout.code)) ≡ l.fn.lines.items ++ all_lines (blocks_from l.layout 0 l.layout.code)
