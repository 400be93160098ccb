use Rattle.std.proofs.Common.{◌≡◌, ◌+◌, ◌-◌, ◌*◌, ◌++◌}
use Rattle.c_emission.specs.Exchanges.{emptied_lines}
use Rattle.c_emission.proofs.exchanges.add_all_emptied.Given as goal

abbrev pub invariant-loop-cradle : goal.invariant-loop-cradle
invariant-loop-cradle l =
    l.lines.items ++ emptied_lines (l.base + 3 * l.cradle) l.cradle (4 * l.kinds - l.cradle) ≡ l.fn.lines.items ++ emptied_lines l.base 0 (4 * l.kinds)
