use Rattle.std.proofs.Common.{List, subst}
use Rattle.std.specs.Prelude.{Ok, Err}
use Rattle.schedule_turns.specs.declared.turn.Turn.{Turn}
use Rattle.core_runs.specs.Replays.{replayed}
use Rattle.oa_core.specs.Finals.{AnswersTurns}
use Rattle.oa_core.specs.Shown.{replay_by}
use Rattle.document_runs.proofs.running.make_report.Goals as goal

pub returns-in-Ok : goal.returns-in-Ok
returns-in-Ok c = (
  c.in-Ok.state,
  subst (λ (turns : List Turn). AnswersTurns (Ok c.in-Ok.state) c.args.ready.replay.fuel (replayed (replay_by c.args.ready.replay) turns)) c.items.ensures c.in-Ok.ensures.replayed,
  c.report_of.ensures,
)

pub returns-in-Err : goal.returns-in-Err
returns-in-Err c = subst (λ (turns : List Turn). AnswersTurns (Err c.in-Err.stop) c.args.ready.replay.fuel (replayed (replay_by c.args.ready.replay) turns)) c.items.ensures c.in-Err.ensures.replayed
