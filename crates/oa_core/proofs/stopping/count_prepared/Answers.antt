use Rattle.std.proofs.Common.{subst}
use Rattle.core_runs.specs.Replays.{replay_start}
use Rattle.oa_core.specs.Shown.{Terms, replay_by}
use Rattle.oa_core.specs.Stops.{StopsAfter}
use Rattle.oa_core.proofs.stopping.count_prepared.Goals as goal

pub returns-in-Ok : goal.returns-in-Ok
returns-in-Ok c = subst (λ (t : Terms). StopsAfter (replay_by t) c.args.schedule.now (replay_start (replay_by t)) c.count_whole.result) c.in-Ok.ensures c.count_whole.ensures
