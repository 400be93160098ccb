-- Reports of what a document runs, and of what its schedule gives.
use Rattle.std.specs.Prelude.{◌≡◌, List, Ok}
use Rattle.core_runs.specs.Machine.{CoreState, CoreEvent}
use Rattle.core_runs.specs.Replays.{Replaying}
use Rattle.documents.specs.declared.document.Document.{Document}
use Rattle.script_plans.specs.Plans.{IsRunnable}
use Rattle.document_runs.specs.declared.report.Report.{Report}
use Rattle.document_runs.specs.Runs.{replay_given}
use Rattle.script_driver.specs.report_laws.Lines.{TellsOf}

-- the document can be run, and the report tells of a complete run of it
pub record IsRunReport (document : Document) (report : Report) : Type 0 where
  pub runnable : IsRunnable document
  pub events : List CoreEvent
  pub state : CoreState
  pub tells : TellsOf document events state report

-- the document can be run, and the report tells of the complete run that the turns of its schedule give
pub record IsReplayReport (document : Document) (report : Report) : Type 0 where
  pub runnable : IsRunnable document
  pub replaying : Replaying
  pub given : replay_given document ≡ Ok replaying
  pub tells : TellsOf document replaying.events replaying.state report
