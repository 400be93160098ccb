use Rattle.std.proofs.Common.{◌≡◌, ◌-◌}
use Rattle.core_runs.specs.Replays.{steps_made}
use Rattle.oa_core.specs.Shown.{replay_by, shown, bared, IsUnderWay}
use Rattle.oa_core.proofs.progress.Terms.make_steps.Given as goal

-- what is left gives what the whole gives
abbrev pub invariant-loop : goal.invariant-loop
invariant-loop l = record {
  way : IsUnderWay l.self l.now;
  same : bared (steps_made (replay_by l.self) l.caller (l.count - l.counter) (shown l.now)) ≡ bared (steps_made (replay_by l.self) l.caller l.count (shown l.fn.now));
}
