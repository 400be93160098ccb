use Rattle.std.proofs.Common.{◌-◌}
use Rattle.core_runs.specs.Replays.{callers_ended}
use Rattle.replay_logs.specs.UnderWay.{replay_by, IsUnderWay}
use Rattle.replay_logs.proofs.Following.{Leaves}
use Rattle.replay_logs.proofs.progress.Terms.end_callers.Given as goal

-- what is left gives what the whole gives
abbrev pub invariant-loop-caller : goal.invariant-loop-caller
invariant-loop-caller l = record {
  way : IsUnderWay l.self l.now;
  leaves : Leaves l.self l.fn.now l.now (callers_ended (replay_by l.self) 0 l.callers) (callers_ended (replay_by l.self) l.caller (l.callers - l.caller));
}
