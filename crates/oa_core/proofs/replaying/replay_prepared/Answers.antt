use Rattle.std.proofs.Common.{ap, sym, subst, ◌∙◌}
use Rattle.std.specs.Prelude.{Result, IfOk}
use Rattle.core_runs.specs.Replays.{replayed}
use Rattle.replay_steps.specs.Entries.{HasRooms}
use Rattle.oa_core.specs.declared.replaying.ReplayError.{ReplayError}
use Rattle.oa_core.specs.Finals.{Final, AnswersReplay, AnswersTurns, replay_of}
use Rattle.oa_core.specs.Shown.{Terms, replay_by}
use Rattle.oa_core.proofs.Ending.{answers_so, rooms_stay}
use Rattle.oa_core.proofs.replaying.replay_prepared.Goals as goal

pub returns-in-Ok-clause-replayed : goal.returns-in-Ok-clause-replayed
returns-in-Ok-clause-replayed c =
    subst (λ (o : Result Final ReplayError). AnswersReplay o c.args.fuel (replayed (replay_of c.args.prepared.now.target c.args.setting.now c.args.scripts.now c.args.fuel) c.args.schedule.now)) (sym c.answer_of.ensures)
    (answers_so c.make.result c.args.fuel _ (subst (λ (t : Terms). AnswersTurns c.make.result t.fuel (replayed (replay_by t) c.args.schedule.now)) c.in-Ok.ensures c.make.ensures.replayed))

pub returns-in-Ok-clause-rooms : goal.returns-in-Ok-clause-rooms
returns-in-Ok-clause-rooms c =
    subst (λ (o : Result Final ReplayError). IfOk o (λ s. HasRooms c.args.scripts.now s.entries)) (sym c.answer_of.ensures)
    (rooms_stay c.make.result c.args.scripts.now (subst (λ (t : Terms). IfOk c.make.result (λ s. HasRooms t.scripts s.entries)) c.in-Ok.ensures c.make.ensures.rooms))
