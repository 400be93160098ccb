-- What is run and what is replayed, with what its report tells.
use Rattle.std.proofs.Common.{Result, Ok, Err}
use Rattle.documents.specs.declared.document.Document.{Document}
use Rattle.documents.specs.DocumentLimits.{IsWithinDocumentLimits}
use Rattle.script_plans.specs.declared.fault.RunFault.{RunFault}
use Rattle.document_runs.specs.declared.report.Report.{Report}
use Rattle.document_runs.specs.Runs.{IsRan, IsReplayed}
use Rattle.document_runs.specs.Epochs.{IsEpochRan}
use Rattle.script_driver.specs.report_laws.Lines.{ReportsAreTrue}
use Rattle.script_driver.specs.report_laws.EpochLines.{EpochReportsAreTrue, IsEpochAnswer}
use Rattle.script_driver.specs.Answers.{IsRunAnswer, IsReplayAnswer}

pub run_told : (document : Document) (result : Result Report RunFault) → ReportsAreTrue → IsWithinDocumentLimits document → IsRan document result → IsRunAnswer document result
run_told document (Ok report) true_of within ran = record {
  runnable = ran.0;
  events = ran.1;
  state = ran.2;
  tells = rw ran.4 (true_of document ran.1 ran.2 within ran.0 ran.3);
}
run_told document (Err fault) true_of within ran = ran

pub replay_told : (document : Document) (result : Result Report RunFault) → ReportsAreTrue → IsWithinDocumentLimits document → IsReplayed document result → IsReplayAnswer document result
replay_told document (Ok report) true_of within ran = record {
  runnable = ran.0;
  replaying = ran.1;
  given = ran.2;
  tells = rw ran.4 (true_of document ran.1.events ran.1.state within ran.0 ran.3);
}
replay_told document (Err fault) true_of within ran = ran

pub epoch_told : (document : Document) (result : Result Report RunFault) → EpochReportsAreTrue → IsWithinDocumentLimits document → IsEpochRan document result → IsEpochAnswer document result
epoch_told document (Ok report) true_of within ran = record {
  runnable = ran.0;
  events = ran.1;
  state = ran.2;
  tells = rw ran.4 (true_of document ran.1 ran.2 within ran.0 ran.3);
}
epoch_told document (Err fault) true_of within ran = ran
