use Rattle.std.proofs.Common.{◌≡◌, ◌++◌, drop}
use Rattle.state_judge.specs.Reach.{names_of}
use Rattle.state_judge.proofs.reach.names.Given as goal

abbrev pub invariant-loop-node : goal.invariant-loop-node
invariant-loop-node l = l.names.items ++ names_of (drop l.node-index l.nodes) ≡ names_of l.nodes
