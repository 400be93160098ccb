use Rattle.std.proofs.Common.{◌≡◌, ◌-◌}
use Rattle.core_runs.specs.Replays.{most_steps, caller_ended}
use Rattle.oa_core.specs.Shown.{replay_by, shown, bared, IsUnderWay}
use Rattle.oa_core.proofs.progress.Terms.end_caller.Given as goal

-- what is left gives what the whole gives
abbrev pub invariant-calls : goal.invariant-calls
invariant-calls l = record {
  way : IsUnderWay l.self l.now;
  same : bared (caller_ended (replay_by l.self) l.caller (most_steps (replay_by l.self) (shown l.now)) (shown l.now)) ≡ bared (caller_ended (replay_by l.self) l.caller (most_steps (replay_by l.self) (shown l.fn.now)) (shown l.fn.now));
}

abbrev pub decreases-calls : goal.decreases-calls
decreases-calls l = l.self.limit - l.now.steps
