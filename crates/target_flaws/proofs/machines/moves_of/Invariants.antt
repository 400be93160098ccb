use Rattle.std.proofs.Common.{◌≡◌, ◌++◌, drop, length}
use Rattle.target_flaws.specs.Machines.{machine_after, moves_from}
use Rattle.target_flaws.proofs.machines.moves_of.Given as goal

-- what is left gives what the whole gives
abbrev pub invariant-loop-at : goal.invariant-loop-at
invariant-loop-at l = l.moves.items ++ moves_from (machine_after l.machine) (length l.code) l.at (drop l.at l.code) ≡ moves_from (machine_after l.machine) (length l.code) 0 l.code
