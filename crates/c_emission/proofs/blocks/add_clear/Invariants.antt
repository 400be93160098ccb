use Rattle.std.proofs.Common.{◌≡◌, ◌≤◌, ◌+◌, ◌-◌, ◌*◌, ◌++◌}
use Rattle.c_emission.specs.Blocks.{clear_lines}
use Rattle.c_emission.proofs.blocks.add_clear.Given as goal

abbrev pub invariant-loop-register : goal.invariant-loop-register
invariant-loop-register l = record {
  same : l.lines.items ++ clear_lines l.spared l.line l.register (8 - l.register) ≡ l.fn.lines.items ++ clear_lines l.spared l.base 0 8;
  near : l.line ≤ l.base + 3 * l.register;
}
