use Rattle.std.proofs.Common.{◌≡◌, ◌-◌, ◌++◌}
use Rattle.c_emission.specs.Ends.{field_lines}
use Rattle.c_emission.proofs.ends.add_fields.Given as goal

abbrev pub invariant-loop-at : goal.invariant-loop-at
invariant-loop-at l = l.lines.items ++ field_lines l.kind l.at (l.count - l.at) ≡ l.fn.lines.items ++ field_lines l.kind 0 l.count
