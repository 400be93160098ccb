use Rattle.std.proofs.Common.{◌≡◌, drop}
use Rattle.core_runs.specs.Replays.{turns_made}
use Rattle.oa_core.specs.Shown.{replay_by, shown, bared, IsUnderWay}
use Rattle.oa_core.proofs.progress.Terms.make_turns.Given as goal

-- what is left gives what the whole gives
abbrev pub invariant-loop-turn : goal.invariant-loop-turn
invariant-loop-turn l = record {
  way : IsUnderWay l.self l.now;
  same : bared (turns_made (replay_by l.self) (drop l.turn-index l.schedule) (shown l.now)) ≡ bared (turns_made (replay_by l.self) l.schedule (shown l.fn.now));
}
