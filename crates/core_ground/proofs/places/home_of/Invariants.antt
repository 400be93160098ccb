use Rattle.std.proofs.Common.{◌≤◌, ◌<◌, ◌-◌}
use Rattle.core_ground.proofs.Placing.{Searched}
use Rattle.core_ground.proofs.places.home_of.Given as goal

abbrev pub invariant-loop-kind : goal.invariant-loop-kind
invariant-loop-kind l = record { so : Searched l.nodes l.node l.kind l.left; few : l.left ≤ l.node; within : l.kind < 4 }

abbrev pub decreases-loop-kind : goal.decreases-loop-kind
decreases-loop-kind l = 4 - l.kind
