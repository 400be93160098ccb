-- Runs of documents under epochs, by those of their plans.
use Rattle.std.proofs.Common.{◌≡◌, ℕ, List, Result, Ok, Err, sym, subst}
use Rattle.std.specs.Prelude.{IfOk, MatchResult}
use Rattle.target_code.specs.Bare.{bare}
use Rattle.caller_parts.specs.declared.call.Call.{Call}
use Rattle.core_ground.specs.Running.{bare_pair}
use Rattle.word_runner.specs.declared.blank.NoPlace.{NoPlace}
use Rattle.word_runner.specs.table_rule.Seen.{Fixed}
use Rattle.thread_runs.specs.Whole.{ReadyShown}
use Rattle.core_runs.specs.Scripts.{SuitScripts}
use Rattle.documents.specs.declared.document.Document.{Document}
use Rattle.script_plans.specs.declared.epoch_plan.EpochPlan.{EpochPlan}
use Rattle.script_plans.specs.declared.fault.RunFault.{RunFault}
use Rattle.script_plans.specs.declared.fault.RunFault.TheVariants as faults
use Rattle.script_plans.specs.Shapes.{epoch_setting_of}
use Rattle.script_plans.specs.Plans.{calls_of}
use Rattle.script_plans.specs.EpochPlans.{IsEpochPlanned, IsEpochReady}
use Rattle.document_runs.specs.declared.report.Report.{Report}
use Rattle.document_runs.specs.Epochs.{IsEpochRan, IsReadyEpochPlan}
use Rattle.document_runs.specs.PlanRuns.{ReportsEnd}
use Rattle.document_runs.proofs.PlanLaws.{end_is}

-- what is answered for a run of the document's plan
pub is_ran : (document : Document) (plan : EpochPlan) (callers : ReadyShown) (scripts : List (List Call)) (fuel : ℕ) (ran : Result Report NoPlace) (answered : Result Report RunFault)
    → IsEpochPlanned document (Ok plan) → IsReadyEpochPlan plan callers scripts fuel → IfOk ran (λ report. ReportsEnd document callers.fixed scripts fuel report)
    → MatchResult ran (λ report. answered ≡ Ok report) (λ _. answered ≡ Err faults.Memory) → IsEpochRan document answered
is_ran document plan callers scripts fuel (Err refused) answered planned ready ended is = subst (IsEpochRan document) (sym is) tt
is_ran document plan callers scripts fuel (Ok report) answered planned ready ended is =
    let end = end_is document key (calls_of document) document.fuel report of_document in
    subst (IsEpochRan document) (sym is) (planned.1, end.0, end.1, end.2, end.3) where
      key : Fixed
      key = record { target = bare_pair document.text; setting = epoch_setting_of document }

      of_plan : ReportsEnd document (record { target = bare_pair plan.normal; setting = plan.setting }) plan.scripts plan.fuel report
      of_plan =
          subst (λ (f : Fixed). ReportsEnd document f plan.scripts plan.fuel report) ready.fixed
          (subst (λ (s : List (List Call)). ReportsEnd document callers.fixed s plan.fuel report) ready.scripts_are (subst (λ (n : ℕ). ReportsEnd document callers.fixed scripts n report) ready.fuel_is ended))

      of_document : ReportsEnd document key (calls_of document) document.fuel report
      of_document = subst (λ (p : EpochPlan). ReportsEnd document (record { target = bare_pair p.normal; setting = p.setting }) p.scripts p.fuel report) planned.0 of_plan

pub plan_suits : (plan : EpochPlan) → IsEpochReady plan → SuitScripts (bare plan.normal) plan.setting plan.scripts
plan_suits plan ready = record { count = ready.count; calls = ready.calls }
