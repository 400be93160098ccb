-- Runs and replays of documents, by those of their plans.
use Rattle.std.proofs.Common.{◌≡◌, ℕ, List, [], ◌∷◌, map, Option, Result, Ok, Err, refl, sym, ap, subst, ◌∙◌}
use Rattle.std.specs.Prelude.{slice_index, IfOk, MatchResult}
use Rattle.caller_steps.specs.Entries.{Entry, RoomyEntry}
use Rattle.caller_parts.specs.declared.call.Call.{Call}
use Rattle.core_runs.specs.Machine.{CoreState, CoreEvent}
use Rattle.core_runs.specs.Scripts.{SuitScripts, IsCompleteRun}
use Rattle.core_runs.specs.Replays.{Replaying, Refusal, StepOfNobody, LongReplay, replayed}
use Rattle.core_runs.proofs.Replaying.{replays_reach}
use Rattle.oa_core.specs.Finals.{Final, core_part, core_of, refusal_of, replay_of, LeadsTo, IsReplayRefused as Refuses}
use Rattle.oa_core.specs.Shown.{Terms, replay_by, terms_of}
use Rattle.word_runner.specs.declared.blank.NoPlace.{NoPlace}
use Rattle.word_runner.specs.table_rule.Seats.{cores}
use Rattle.word_runner.specs.table_rule.Seen.{Fixed}
use Rattle.thread_runs.specs.Whole.{ReadyShown, IsFinalOf}
use Rattle.oa_core.specs.declared.progress.Stop.{Stop}
use Rattle.oa_core.specs.declared.progress.Stop.TheVariants as stops
use Rattle.documents.specs.declared.document.Document.{Document}
use Rattle.script_plans.specs.declared.fault.ShapeFault.{ShapeFault}
use Rattle.script_plans.specs.declared.fault.RunFault.{RunFault}
use Rattle.script_plans.specs.declared.fault.RunFault.TheVariants as faults
use Rattle.script_plans.specs.declared.plan.Plan.{Plan}
use Rattle.script_plans.specs.Shapes.{first_of, setting_of}
use Rattle.script_plans.specs.Plans.{target_of, calls_of, plan_for, IsFaultOf, IsRunnable, IsPlanned, IsReady}
use Rattle.document_runs.specs.declared.report.Report.{Report}
use Rattle.document_runs.specs.Reports.{report_with, report_of}
use Rattle.document_runs.specs.Runs.{IsRan, replay_given, refusal_fault, IsReplayFaultOf, IsReplayed}
use Rattle.document_runs.specs.PlanRuns.{plan_replayed, ReportsTurns, fault_of, answer_of, IsReadyPlan, ReportsEnd}

-- ---- a replay

-- what is wrong with a document is wrong with its replay
pub is_replay_fault : (document : Document) (fault : RunFault) → IsFaultOf document fault → IsReplayFaultOf document fault
is_replay_fault document faults.Memory is = tt
is_replay_fault document (faults.Refused refusal) is = is
is_replay_fault document (faults.Shape number at) is = (is.0, ap (λ (shape : Option ShapeFault). first_of (shape ∷ refusal_fault (replay_given document) ∷ [])) is.1)

leads : (final : Final) (fuel : ℕ) (given : Result Replaying Refusal) → LeadsTo final fuel given → (r : Replaying) × (given ≡ Ok r) × (core_of final ≡ r.state)
leads final fuel (Ok r) is = (r, refl, is.0)
leads final fuel (Err refusal) is = absurd is

refuses : (refusal : Refusal) (given : Result Replaying Refusal) → Refuses refusal given → given ≡ Err refusal
refuses refusal (Ok r) is = absurd is
refuses refusal (Err other) is = ap (λ (told : Refusal). Err told) is

suits : (document : Document) → IsReady (plan_for document) → SuitScripts (target_of document) (setting_of document) (calls_of document)
suits document ready = record { count = ready.count; calls = ready.calls }

replayed_so : (document : Document) (final : Final) (report : Report) → IsRunnable document → IsReady (plan_for document)
    → LeadsTo final document.fuel (replay_given document) → report ≡ report_of document (core_of final) → IsReplayed document (Ok report)
replayed_so document final report runs ready given is =
    let end = leads final document.fuel (replay_given document) given in
    let r : Replaying = end.0 in
    let reached = (replays_reach (replay_of (target_of document) (setting_of document) (calls_of document) document.fuel)).each document.schedule r (suits document ready) ready.fuel end.1 in
    (runs, r, end.1, reached.0, is ∙ ap (report_of document) end.2)

refused_so : (document : Document) (stop : Stop) → IsRunnable document → Refuses (refusal_of stop) (replay_given document) → IsReplayFaultOf document (fault_of stop)
refused_so document (stops.StepOfNobody steps) runs given =
    (runs.normal, rw (runs.shape, refuses (StepOfNobody steps) (replay_given document) given) refl)
refused_so document (stops.LongReplay steps) runs given =
    (runs.normal, rw (runs.shape, refuses (LongReplay steps) (replay_given document) given) refl)

by_plan : (document : Document) (made : Result Report Stop) → IsRunnable document → IsReady (plan_for document) → ReportsTurns document made document.fuel (replay_given document) → IsReplayed document (answer_of made)
by_plan document (Ok report) runs ready given = replayed_so document given.0 report runs ready given.1 given.2
by_plan document (Err stop) runs ready given = refused_so document stop runs given

-- what is answered for a replay of the document's plan
pub is_replayed : (document : Document) (plan : Plan) (replay : Terms) (made : Result Report Stop) (answered : Result Report RunFault) → IsPlanned document (Ok plan) → IsReady plan
    → replay ≡ terms_of plan.barred plan.setting plan.scripts plan.fuel → ReportsTurns document made replay.fuel (replayed (replay_by replay) document.schedule) → answered ≡ answer_of made → IsReplayed document answered
is_replayed document plan replay made answered planned ready same given is = subst (IsReplayed document) (sym is) (by_plan document made planned.1 (subst IsReady planned.0 ready) of_document) where
  of_plan : ReportsTurns document made plan.fuel (plan_replayed plan document.schedule)
  of_plan = subst (λ (t : Terms). ReportsTurns document made t.fuel (replayed (replay_by t) document.schedule)) same given

  of_document : ReportsTurns document made document.fuel (replay_given document)
  of_document = subst (λ (p : Plan). ReportsTurns document made p.fuel (plan_replayed p document.schedule)) planned.0 of_plan

-- ---- a run

pub cores_are : (entries : List RoomyEntry) → cores entries ≡ map core_part entries
cores_are [] = refl
cores_are (e ∷ entries) = ap (λ (rest : List Entry). e.core ∷ rest) (cores_are entries)

pub reported : (document : Document) (key : Fixed) (scripts : List (List Call)) (fuel phase : ℕ) (entries : List RoomyEntry) (report : Report) → IsFinalOf key scripts fuel phase entries
    → report ≡ report_with document phase (map core_part entries) → ReportsEnd document key scripts fuel report
reported document key scripts fuel phase entries report ends is = record { phase = phase; entries = entries; ends = ends; report_is = is }

-- the report of a complete run is that of the state in which it ends
pub end_is : (document : Document) (key : Fixed) (scripts : List (List Call)) (fuel : ℕ) (report : Report) → ReportsEnd document key scripts fuel report
    → (events : List CoreEvent) × (state : CoreState) × IsCompleteRun key.target.target key.setting scripts fuel events state × (report ≡ report_of document state)
end_is document key scripts fuel report told =
    let ended = told.ends in
    let same : map core_part told.entries ≡ ended.core.entries = sym (cores_are told.entries) ∙ ended.entries_are in (
      ended.events,
      ended.core,
      ended.complete,
      told.report_is ∙ ap (λ (p : ℕ). report_with document p (map core_part told.entries)) ended.phase_is ∙ ap (λ (es : List Entry). report_with document (slice_index ended.core.words 0) es) same,
    )

-- what is answered for a run of the document's plan
pub is_ran : (document : Document) (plan : Plan) (callers : ReadyShown) (scripts : List (List Call)) (fuel : ℕ) (ran : Result Report NoPlace) (answered : Result Report RunFault) → IsPlanned document (Ok plan)
    → IsReadyPlan plan callers scripts fuel → IfOk ran (λ report. ReportsEnd document callers.fixed scripts fuel report)
    → MatchResult ran (λ report. answered ≡ Ok report) (λ _. answered ≡ Err faults.Memory) → IsRan document answered
is_ran document plan callers scripts fuel (Err refused) answered planned ready ended is = subst (IsRan document) (sym is) tt
is_ran document plan callers scripts fuel (Ok report) answered planned ready ended is =
    let end = end_is document key (calls_of document) document.fuel report of_document in
    subst (IsRan document) (sym is) (planned.1, end.0, end.1, end.2, end.3) where
      key : Fixed
      key = record { target = (plan_for document).barred; setting = (plan_for document).setting }

      of_plan : ReportsEnd document (record { target = plan.barred; setting = plan.setting }) plan.scripts plan.fuel report
      of_plan =
          subst (λ (f : Fixed). ReportsEnd document f plan.scripts plan.fuel report) ready.fixed
          (subst (λ (s : List (List Call)). ReportsEnd document callers.fixed s plan.fuel report) ready.scripts_are (subst (λ (n : ℕ). ReportsEnd document callers.fixed scripts n report) ready.fuel_is ended))

      of_document : ReportsEnd document key (calls_of document) document.fuel report
      of_document = subst (λ (p : Plan). ReportsEnd document (record { target = p.barred; setting = p.setting }) p.scripts p.fuel report) planned.0 of_plan

pub plan_suits : (plan : Plan) → IsReady plan → SuitScripts plan.barred.target plan.setting plan.scripts
plan_suits plan ready = record { count = ready.count; calls = ready.calls }
