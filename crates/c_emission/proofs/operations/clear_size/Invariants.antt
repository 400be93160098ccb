use Rattle.std.proofs.Common.{◌≡◌, ◌≤◌, ◌+◌, ◌-◌, ◌*◌}
use Rattle.c_emission.specs.Blocks.{clear_size}
use Rattle.c_emission.proofs.operations.clear_size.Given as goal

abbrev pub invariant-loop-register : goal.invariant-loop-register
invariant-loop-register l = record {
  same : l.size + clear_size l.spared l.register (8 - l.register) ≡ clear_size l.spared 0 8;
  few : l.size ≤ 3 * l.register;
}
