use Rattle.std.proofs.Common.{◌≡◌, ◌++◌, drop}
use Rattle.std.specs.List.{flat_map}
use Rattle.path_facts.specs.Nodes.{nodes_of}
use Rattle.path_facts.proofs.nodes.nodes_of_moves.Given as goal

-- what is left gives what the whole gives
abbrev pub invariant-loop-one : goal.invariant-loop-one
invariant-loop-one l = l.forks.items ++ flat_map nodes_of (drop l.one-index l.moves) ≡ flat_map nodes_of l.moves
