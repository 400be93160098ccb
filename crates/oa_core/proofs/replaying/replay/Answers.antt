use Rattle.std.proofs.Common.{subst}
use Rattle.barrier_check.specs.Paired.{Paired}
use Rattle.core_runs.specs.Replays.{replayed}
use Rattle.oa_core.specs.Finals.{AnswersReplay, replay_of}
use Rattle.oa_core.proofs.Ending.{ends_run}
use Rattle.oa_core.proofs.replaying.replay.Goals as goal

pub returns-clause-replayed : goal.returns-clause-replayed
returns-clause-replayed c =
    subst (λ (pair : Paired). AnswersReplay c.replay_prepared.result c.args.fuel (replayed (replay_of pair.target c.args.setting.now c.args.scripts.now c.args.fuel) c.args.schedule.now))
    c.new-prepared.ensures c.replay_prepared.ensures.replayed

pub returns-clause-complete : goal.returns-clause-complete
returns-clause-complete c =
    ends_run c.args.barred.now c.args.setting.now c.args.scripts.now c.args.fuel c.args.schedule.now c.replay_prepared.result c.kept.ensures c.kept-2.ensures c.requires.fits c.requires.count c.requires.calls c.requires.fuel
    (returns-clause-replayed c)
