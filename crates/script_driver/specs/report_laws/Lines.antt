-- What the lines of a report say of the run that it tells of.
use Rattle.std.specs.Prelude.{◌≡◌, ◌↔◌, ℕ, List, None, slice_get}
use Rattle.std.specs.List.{All}
use Rattle.source_machine.specs.Proper.{IsProper}
use Rattle.norm_lang.specs.declared.reply.SourceReply.TheVariants as replies
use Rattle.target_code.specs.declared.target.Target.{Target}
use Rattle.caller_parts.specs.Settings.{Setting}
use Rattle.core_runs.specs.Machine.{CoreState, CoreEvent}
use Rattle.core_runs.specs.Histories.{calls_in}
use Rattle.claim_laws.specs.CallSteps.{steps_of_call}
use Rattle.claim_laws.specs.Causes.{FoundLastPhase, EndsInFailedLook}
use Rattle.claim_laws.specs.Full.{FillItsKind}
use Rattle.documents.specs.declared.document.Document.{Document}
use Rattle.documents.specs.DocumentLimits.{IsWithinDocumentLimits}
use Rattle.script_plans.specs.Shapes.{setting_of}
use Rattle.script_plans.specs.Plans.{target_of, IsRunnable}
use Rattle.document_runs.specs.declared.report.Answer.{Answer}
use Rattle.document_runs.specs.declared.report.Answer.TheVariants as answers
use Rattle.document_runs.specs.declared.report.ReportLine.{ReportLine}
use Rattle.document_runs.specs.declared.report.Report.{Report}
use Rattle.document_runs.specs.Reports.{report_of}
use Rattle.document_runs.specs.Runs.{IsCompleteRunOf}
use Rattle.script_driver.specs.report_laws.Fuel.{IsOutOfFuel}
use Rattle.script_driver.specs.report_laws.Sources.{HasSourceRun, IsNamed}
use Rattle.script_driver.specs.report_laws.Legal.{HasLegalHistory}
use Rattle.script_driver.specs.report_laws.Shipped.{ShippedIsNeverFull}

-- the caller took fewer calls
abbrev pub WasNeverTaken : List CoreEvent → ℕ → ℕ → Type 0
WasNeverTaken events caller index = slice_get (calls_in caller events) index ≡ None

-- why a call has no result, each exactly if this is so: a sweep of the call found the last phase; its claim made two sweeps, and then
-- found no slot of its kind on top; all the steps that it may make were made, and it hasn't ended; or its caller never took it
pub record IsCausedAnswer (target : Target) (setting : Setting) (fuel : ℕ) (events : List CoreEvent) (state : CoreState) (caller index : ℕ) (answer : Answer) : Type 0 where
  pub phases : (p : ℕ) → (answer ≡ answers.Replied (replies.Phases p)) ↔ FoundLastPhase setting p (steps_of_call target setting events caller index)
  pub full : (answer ≡ answers.Replied replies.Full) ↔ EndsInFailedLook setting (steps_of_call target setting events caller index)
  pub spent : (answer ≡ answers.Spent) ↔ IsOutOfFuel fuel events state caller index
  pub unreached : (answer ≡ answers.Unreached) ↔ WasNeverTaken events caller index

abbrev pub IsTrueAnswer : Document → List CoreEvent → CoreState → ℕ → ℕ → Answer → Type 0
IsTrueAnswer document events state caller index answer = IsCausedAnswer (target_of document) (setting_of document) document.fuel events state caller index answer

abbrev pub IsTrueLine : Document → List CoreEvent → CoreState → ReportLine → Type 0
IsTrueLine document events state line = IsTrueAnswer document events state line.caller line.index line.answer

-- if a line says that the pool is full, the initial nodes of the kind of the `new` at which its call gave up and the claims of the report
-- together are at least the slots of this kind
abbrev pub TakesClaims : Target → Setting → List CoreEvent → ℕ → ReportLine → Type 0
TakesClaims target setting events claims line = line.answer ≡ answers.Replied replies.Full → FillItsKind setting claims (steps_of_call target setting events line.caller line.index)

-- a report tells of a complete run of its document: it is that of the state in which the run ends, and its lines are true. If the
-- text is proper, the run is one of the text on memory that is never recycled, and the lines are what that one answers; of a text that
-- a `use` line names nothing is assumed, and what its lines show has a legal history. Of a shipped text no line is full if the slots are enough
pub record TellsOf (document : Document) (events : List CoreEvent) (state : CoreState) (report : Report) : Type 0 where
  pub complete : IsCompleteRunOf document events state
  pub of : report ≡ report_of document state
  pub lines : All (IsTrueLine document events state) report.lines
  pub full : All (TakesClaims (target_of document) (setting_of document) events report.claims) report.lines
  pub proper : IsProper document.text → HasSourceRun document events state report
  pub named : (words : List (List ℕ)) → IsNamed words document.text → HasSourceRun document events state report
  pub legal : (words : List (List ℕ)) → IsNamed words document.text → HasLegalHistory report
  pub shipped : ShippedIsNeverFull document report

-- of each complete run of each document that can be run
abbrev pub ReportsAreTrue : Type 0
ReportsAreTrue = (document : Document) (events : List CoreEvent) (state : CoreState) → IsWithinDocumentLimits document → IsRunnable document → IsCompleteRunOf document events state
    → TellsOf document events state (report_of document state)
