use Rattle.std.proofs.Common.{drop}
use Rattle.core_runs.specs.Replays.{turns_made}
use Rattle.replay_logs.specs.UnderWay.{replay_by, IsUnderWay}
use Rattle.replay_logs.proofs.Following.{Leaves}
use Rattle.replay_logs.proofs.progress.Terms.make_turns.Given as goal

-- what is left gives what the whole gives
abbrev pub invariant-loop-turn : goal.invariant-loop-turn
invariant-loop-turn l = record {
  way : IsUnderWay l.self l.now;
  leaves : Leaves l.self l.fn.now l.now (turns_made (replay_by l.self) l.schedule) (turns_made (replay_by l.self) (drop l.turn-index l.schedule));
}
