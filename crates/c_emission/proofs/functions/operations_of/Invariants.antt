use Rattle.std.proofs.Common.{◌≡◌, ◌++◌, drop, map}
use Rattle.c_emission.specs.Operations.{operation_lines}
use Rattle.c_emission.proofs.functions.operations_of.Given as goal

-- what is left gives what the whole gives
abbrev pub invariant-loop-number : goal.invariant-loop-number
invariant-loop-number l = l.functions.items ++ map (operation_lines l.target) (drop l.number l.target.ops) ≡ map (operation_lines l.target) l.target.ops
