use Rattle.std.proofs.Common.{◌≡◌, ◌-◌, ◌+◌}
use Rattle.core_runs.specs.Replays.{most_steps, ended_calls, ops_made}
use Rattle.oa_core.specs.Shown.{replay_by, shown, bared, IsUnderWay}
use Rattle.oa_core.proofs.progress.Terms.make_ops.Given as goal

-- what is left gives what the whole gives
abbrev pub invariant-calls : goal.invariant-calls
invariant-calls l = record {
  way : IsUnderWay l.self l.now;
  same : bared (ops_made (replay_by l.self) l.caller (most_steps (replay_by l.self) (shown l.now)) l.goal (shown l.now)) ≡ bared (ops_made (replay_by l.self) l.caller (most_steps (replay_by l.self) (shown l.fn.now)) (ended_calls l.caller (shown l.fn.now) + l.count) (shown l.fn.now));
}

abbrev pub decreases-calls : goal.decreases-calls
decreases-calls l = l.self.limit - l.now.steps
