use Rattle.std.proofs.Common.{sym, subst, ap, ◌∙◌}
use Rattle.std.specs.Prelude.{Result, IfOk}
use Rattle.oa_core.specs.declared.progress.Stop.{Stop}
use Rattle.replay_steps.specs.Entries.{HasRooms}
use Rattle.replay_steps.specs.Turns.{replayed_from}
use Rattle.oa_core.specs.Finals.{Final, AnswersTurns}
use Rattle.oa_core.specs.Shown.{Terms, replay_by, shown, end_of}
use Rattle.oa_core.proofs.Ending.{ends_so, rooms_so}
use Rattle.oa_core.proofs.replaying.replay_from.Goals as goal

pub returns-clause-replayed : goal.returns-clause-replayed
returns-clause-replayed c =
    subst (λ (o : Result Final Stop). AnswersTurns o c.args.terms.now.fuel (replayed_from (replay_by c.args.terms.now) c.args.schedule.now (shown c.args.now)))
    (sym (c.end_of.ensures ∙ ap (λ (t : Terms). end_of c.run-made.result c.run-made.new.now t.fuel) c.terms.view_is))
    (ends_so c.run-made.result c.run-made.new.now c.args.terms.now.fuel _ c.run-made.ensures.made)

pub returns-clause-rooms : goal.returns-clause-rooms
returns-clause-rooms c =
    subst (λ (o : Result Final Stop). IfOk o (λ s. HasRooms c.args.terms.now.scripts s.entries)) (sym c.end_of.ensures)
    (rooms_so c.run-made.result c.run-made.new.now _ c.args.terms.now.scripts c.run-made.ensures.under_way.rooms)
