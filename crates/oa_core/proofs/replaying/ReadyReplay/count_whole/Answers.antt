use Rattle.std.proofs.Common.{subst}
use Rattle.core_runs.specs.Replays.{Replaying, replay_start}
use Rattle.oa_core.specs.Shown.{Terms, replay_by}
use Rattle.oa_core.specs.Stops.{StopsAfter}
use Rattle.oa_core.proofs.replaying.ReadyReplay.count_whole.Goals as goal

pub returns : goal.returns
returns c =
    subst (λ (t : Terms). StopsAfter (replay_by t) c.args.schedule.now (replay_start (replay_by t)) c.count_turns.result) c.self.view_is
    (subst (λ (r : Replaying). StopsAfter (replay_by c.self.inside.terms) c.args.schedule.now r c.count_turns.result) c.self.invariant.1 c.count_turns.ensures)
