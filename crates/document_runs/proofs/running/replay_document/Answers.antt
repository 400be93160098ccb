use Rattle.document_runs.proofs.PlanLaws.{is_replay_fault}
use Rattle.document_runs.proofs.running.replay_document.Goals as goal

pub returns-in-Err : goal.returns-in-Err
returns-in-Err c = is_replay_fault c.args.document.now _ c.in-Err.ensures.exact
