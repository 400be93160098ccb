use Rattle.std.proofs.Common.{subst}
use Rattle.barrier_check.specs.Paired.{Paired}
use Rattle.oa_core.specs.Finals.{replay_of}
use Rattle.oa_core.proofs.Halting.{StopsIn}
use Rattle.oa_core.proofs.stopping.whole_turns.Goals as goal

pub returns : goal.returns
returns c =
    subst (λ (pair : Paired). StopsIn c.count_prepared.result c.args.schedule.now (replay_of pair.target c.args.setting.now c.args.scripts.now c.args.fuel)) c.new-prepared.ensures c.count_prepared.ensures
