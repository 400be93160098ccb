-- What the lines of a report under epochs say of the run that it tells of.
use Rattle.std.specs.Prelude.{◌≡◌, ℕ, ◌-◌, ◌^◌, min, List, Some, Result, Ok, Err, slice_get}
use Rattle.std.specs.List.{All}
use Rattle.target_code.specs.Bare.{bare}
use Rattle.source_machine.specs.Proper.{IsProper}
use Rattle.caller_steps.specs.Entries.{Entry}
use Rattle.core_runs.specs.Machine.{CoreState, CoreEvent, core_start}
use Rattle.core_runs.specs.Swept.{restarts_in}
use Rattle.documents.specs.declared.document.Document.{Document}
use Rattle.documents.specs.DocumentLimits.{IsWithinDocumentLimits}
use Rattle.script_plans.specs.declared.fault.RunFault.{RunFault}
use Rattle.script_plans.specs.Shapes.{epoch_setting_of}
use Rattle.script_plans.specs.Plans.{IsFaultOf, IsRunnable}
use Rattle.document_runs.specs.declared.report.ReportLine.{ReportLine}
use Rattle.document_runs.specs.declared.report.Report.{Report}
use Rattle.document_runs.specs.Reports.{report_of}
use Rattle.document_runs.specs.Epochs.{IsCompleteEpochRunOf}
use Rattle.script_driver.specs.report_laws.EpochSources.{HasEpochSourceRun}
use Rattle.script_driver.specs.report_laws.Legal.{HasLegalHistory}
use Rattle.script_driver.specs.report_laws.Lines.{IsCausedAnswer, TakesClaims}
use Rattle.script_driver.specs.report_laws.Shipped.{ShippedIsNeverFull}
use Rattle.script_driver.specs.report_laws.Sources.{IsNamed}

-- why the call of a line has no result, each exactly if this is so
abbrev pub IsTrueEpochLine : Document → List CoreEvent → CoreState → ReportLine → Type 0
IsTrueEpochLine document events state line = IsCausedAnswer (bare document.text) (epoch_setting_of document) document.fuel events state line.caller line.index line.answer

-- a caller has counted as many restarts as claims of its own that had made a sweep ended with a slot, until the count stands at its
-- type's end
abbrev pub CountsRestarts : Document → List CoreEvent → ℕ → Entry → Type 0
CountsRestarts document events c e =
    e.counts.restarts ≡ min (restarts_in (bare document.text) (epoch_setting_of document) c events (core_start (bare document.text) (epoch_setting_of document))) (2 ^ 64 - 1)

-- a report tells of a complete run of its document under epochs: it is that of the state in which the run ends, and its lines are true.
-- If the text is proper, the run is one of the text on memory that is never recycled, each load's base is null or resident, and the lines
-- are what that run answers; of a text that a `use` line names nothing is assumed, and what its lines show has a legal history. Of a shipped
-- text no line is full if the slots are enough
pub record EpochsTellOf (document : Document) (events : List CoreEvent) (state : CoreState) (report : Report) : Type 0 where
  pub complete : IsCompleteEpochRunOf document events state
  pub of : report ≡ report_of document state
  pub lines : All (IsTrueEpochLine document events state) report.lines
  pub full : All (TakesClaims (bare document.text) (epoch_setting_of document) events report.claims) report.lines
  pub restarts : (c : ℕ) (e : Entry) → slice_get state.entries c ≡ Some e → CountsRestarts document events c e
  pub proper : IsProper document.text → HasEpochSourceRun document events state report
  pub named : (words : List (List ℕ)) → IsNamed words document.text → HasEpochSourceRun document events state report
  pub legal : (words : List (List ℕ)) → IsNamed words document.text → HasLegalHistory report
  pub shipped : ShippedIsNeverFull document report

-- of each complete run of each document that can be run
abbrev pub EpochReportsAreTrue : Type 0
EpochReportsAreTrue = (document : Document) (events : List CoreEvent) (state : CoreState) → IsWithinDocumentLimits document → IsRunnable document → IsCompleteEpochRunOf document events state
    → EpochsTellOf document events state (report_of document state)

-- the document can be run, and the report tells of a complete run of it under epochs
pub record IsEpochReport (document : Document) (report : Report) : Type 0 where
  pub runnable : IsRunnable document
  pub events : List CoreEvent
  pub state : CoreState
  pub tells : EpochsTellOf document events state report

-- a fault is one of the document's
abbrev pub IsEpochAnswer : Document → Result Report RunFault → Type 0
IsEpochAnswer document (Ok report) = IsEpochReport document report
IsEpochAnswer document (Err fault) = IsFaultOf document fault
