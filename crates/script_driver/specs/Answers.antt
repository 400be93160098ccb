-- What a document's run and its replay answer, with all that their reports tell.
use Rattle.std.specs.Prelude.{Result, Ok, Err}
use Rattle.documents.specs.declared.document.Document.{Document}
use Rattle.script_plans.specs.declared.fault.RunFault.{RunFault}
use Rattle.script_plans.specs.Plans.{IsFaultOf}
use Rattle.document_runs.specs.declared.report.Report.{Report}
use Rattle.document_runs.specs.Runs.{IsReplayFaultOf}
use Rattle.script_driver.specs.report_laws.Runs.{IsRunReport, IsReplayReport}

-- a report tells of a complete run of the document, which can be run; a fault is one of the document's
abbrev pub IsRunAnswer : Document → Result Report RunFault → Type 0
IsRunAnswer document (Ok report) = IsRunReport document report
IsRunAnswer document (Err fault) = IsFaultOf document fault

-- a report tells of the complete run that the turns of the schedule give; a fault is one of the document's, or of its turns
abbrev pub IsReplayAnswer : Document → Result Report RunFault → Type 0
IsReplayAnswer document (Ok report) = IsReplayReport document report
IsReplayAnswer document (Err fault) = IsReplayFaultOf document fault
