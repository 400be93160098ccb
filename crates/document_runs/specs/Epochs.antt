-- What a document's run under epochs answers.
use Rattle.std.specs.Prelude.{◌≡◌, ℕ, List, Result, Ok, Err}
use Rattle.target_code.specs.Bare.{bare}
use Rattle.caller_parts.specs.declared.call.Call.{Call}
use Rattle.core_runs.specs.Machine.{CoreState, CoreEvent}
use Rattle.core_runs.specs.Scripts.{IsCompleteRun}
use Rattle.core_ground.specs.Running.{bare_pair}
use Rattle.thread_runs.specs.Whole.{ReadyShown, IsReadyFor}
use Rattle.documents.specs.declared.document.Document.{Document}
use Rattle.script_plans.specs.declared.fault.RunFault.{RunFault}
use Rattle.script_plans.specs.declared.epoch_plan.EpochPlan.{EpochPlan}
use Rattle.script_plans.specs.Shapes.{epoch_setting_of}
use Rattle.script_plans.specs.Plans.{calls_of, IsFaultOf, IsRunnable}
use Rattle.document_runs.specs.declared.report.Report.{Report}
use Rattle.document_runs.specs.Reports.{report_of}

-- a complete run of a document under epochs: a core run of its text as it is, in which each caller takes the calls of its script in
-- order, makes at most `fuel` steps for each, and has ended its script or a call for which that many were made
abbrev pub IsCompleteEpochRunOf : Document → List CoreEvent → CoreState → Type 0
IsCompleteEpochRunOf document events state = IsCompleteRun (bare document.text) (epoch_setting_of document) (calls_of document) document.fuel events state

-- a report is that of the state in which some complete run ends; a fault is one of the document's
abbrev pub IsEpochRan : Document → Result Report RunFault → Type 0
IsEpochRan document (Ok report) =
    IsRunnable document × (events : List CoreEvent) × (state : CoreState) × IsCompleteEpochRunOf document events state × (report ≡ report_of document state)
IsEpochRan document (Err fault) = IsFaultOf document fault

-- callers that are ready run the plan
pub record IsReadyEpochPlan (plan : EpochPlan) (callers : ReadyShown) (scripts : List (List Call)) (fuel : ℕ) : Type 0 where
  pub fixed : callers.fixed ≡ record { target = bare_pair plan.normal; setting = plan.setting }
  pub scripts_are : scripts ≡ plan.scripts
  pub fuel_is : fuel ≡ plan.fuel
  pub ready : IsReadyFor scripts callers
