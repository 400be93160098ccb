use Rattle.std.proofs.Common.{subst}
use Rattle.barrier_check.specs.Paired.{Paired}
use Rattle.core_runs.specs.Replays.{replayed}
use Rattle.replay_logs.specs.Logged.{replay_for, IsLogged}
use Rattle.replay_logs.proofs.replaying.log_replay.Goals as goal

pub returns : goal.returns
returns c =
    subst
    (λ (p : Paired).
    let of = replay_for p.target c.args.setting.now c.args.scripts.now c.args.fuel c.args.limit in
    IsLogged of c.args.normal.now (replayed of c.args.schedule.now) c.log_prepared.result)
    c.new-prepared.ensures c.log_prepared.ensures
