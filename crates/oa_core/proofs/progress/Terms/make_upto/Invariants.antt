use Rattle.std.proofs.Common.{◌≡◌, ◌-◌}
use Rattle.core_runs.specs.Replays.{most_steps, upto_made}
use Rattle.oa_core.specs.Shown.{replay_by, shown, bared, IsUnderWay}
use Rattle.oa_core.proofs.progress.Terms.make_upto.Given as goal

-- what is left gives what the whole gives
abbrev pub invariant-steps : goal.invariant-steps
invariant-steps l = record {
  way : IsUnderWay l.self l.now;
  same : bared (upto_made (replay_by l.self) l.caller l.kind (most_steps (replay_by l.self) (shown l.now)) l.left (shown l.now)) ≡ bared (upto_made (replay_by l.self) l.caller l.kind (most_steps (replay_by l.self) (shown l.fn.now)) l.count (shown l.fn.now));
}

abbrev pub decreases-steps : goal.decreases-steps
decreases-steps l = l.self.limit - l.now.steps
