use Rattle.std.proofs.Common.{◌≤◌}
use Rattle.thread_runs.specs.Scripts.{IsLeastOfRooms}
use Rattle.thread_runs.proofs.Longest.{FitFirst}
use Rattle.thread_runs.proofs.whole.longest.Given as goal

abbrev pub invariant-loop-script : goal.invariant-loop-script
invariant-loop-script l = FitFirst l.scripts l.script-index l.room × (l.room ≤ 100000) × IsLeastOfRooms l.scripts l.room
