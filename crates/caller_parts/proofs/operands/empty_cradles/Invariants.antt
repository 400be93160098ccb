use Rattle.std.proofs.Common.{◌≡◌, ◌++◌, map, take, drop}
use Rattle.caller_parts.specs.Operands.{emptied}
use Rattle.caller_parts.proofs.operands.empty_cradles.Given as goal

abbrev pub invariant-loop-cradle : goal.invariant-loop-cradle
invariant-loop-cradle l = l.cradles ≡ map (emptied l.slot) (take l.cradle-index l.fn.cradles) ++ drop l.cradle-index l.fn.cradles
