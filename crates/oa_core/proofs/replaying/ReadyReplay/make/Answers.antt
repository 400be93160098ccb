use Rattle.std.proofs.Common.{subst}
use Rattle.core_runs.specs.Replays.{Replaying, replayed}
use Rattle.replay_steps.specs.Turns.{replayed_from}
use Rattle.oa_core.specs.Finals.{AnswersTurns}
use Rattle.oa_core.specs.Shown.{Terms, replay_by}
use Rattle.oa_core.proofs.replaying.ReadyReplay.make.Goals as goal

pub returns-clause-replayed : goal.returns-clause-replayed
returns-clause-replayed c =
    subst (λ (t : Terms). AnswersTurns c.replay_from.result t.fuel (replayed (replay_by t) c.args.schedule.now)) c.self.view_is
    (subst (λ (r : Replaying). AnswersTurns c.replay_from.result c.self.inside.terms.fuel (replayed_from (replay_by c.self.inside.terms) c.args.schedule.now r)) c.self.invariant.1 c.replay_from.ensures.replayed)
