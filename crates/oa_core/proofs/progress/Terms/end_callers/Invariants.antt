use Rattle.std.proofs.Common.{◌≡◌, ◌-◌}
use Rattle.core_runs.specs.Replays.{callers_ended}
use Rattle.oa_core.specs.Shown.{replay_by, shown, bared, IsUnderWay}
use Rattle.oa_core.proofs.progress.Terms.end_callers.Given as goal

-- what is left gives what the whole gives
abbrev pub invariant-loop-caller : goal.invariant-loop-caller
invariant-loop-caller l = record {
  way : IsUnderWay l.self l.now;
  same : bared (callers_ended (replay_by l.self) l.caller (l.callers - l.caller) (shown l.now)) ≡ bared (callers_ended (replay_by l.self) 0 l.callers (shown l.fn.now));
}
