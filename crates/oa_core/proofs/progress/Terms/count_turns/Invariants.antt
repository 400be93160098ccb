use Rattle.std.proofs.Common.{◌≡◌, ◌≤◌, length, take}
use Rattle.core_runs.specs.Replays.{turns_made}
use Rattle.oa_core.specs.Shown.{replay_by, shown, bared, IsUnderWay}
use Rattle.replay_steps.specs.Turns.{made_to}
use Rattle.oa_core.proofs.progress.Terms.count_turns.Given as goal

-- the turns so far were made whole
abbrev pub invariant-loop-whole : goal.invariant-loop-whole
invariant-loop-whole l = record {
  way : IsUnderWay l.self l.now;
  within : l.whole ≤ length l.schedule;
  made : made_to (shown l.now) ≡ bared (turns_made (replay_by l.self) (take l.whole l.schedule) (shown l.fn.now));
}
