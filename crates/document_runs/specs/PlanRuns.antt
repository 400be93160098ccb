-- What the run and the replay of a plan answer.
use Rattle.std.specs.Prelude.{◌≡◌, ℕ, List, map, Result, Ok, Err}
use Rattle.schedule_turns.specs.declared.turn.Turn.{Turn}
use Rattle.caller_parts.specs.declared.call.Call.{Call}
use Rattle.caller_steps.specs.Entries.{RoomyEntry}
use Rattle.word_runner.specs.table_rule.Seen.{Fixed}
use Rattle.thread_runs.specs.Whole.{ReadyShown, IsReadyFor, IsFinalOf}
use Rattle.core_runs.specs.Replays.{Replaying, Refusal, replayed}
use Rattle.oa_core.specs.Finals.{Final, core_part, core_of, refusal_of, replay_of, LeadsTo, IsReplayRefused}
use Rattle.oa_core.specs.declared.progress.Stop.{Stop}
use Rattle.oa_core.specs.declared.progress.Stop.TheVariants as stops
use Rattle.documents.specs.declared.document.Document.{Document}
use Rattle.script_plans.specs.declared.fault.RunFault.{RunFault}
use Rattle.script_plans.specs.declared.fault.RunFault.TheVariants as faults
use Rattle.script_plans.specs.declared.plan.Plan.{Plan}
use Rattle.document_runs.specs.declared.report.Report.{Report}
use Rattle.document_runs.specs.Reports.{report_with, report_of}

-- ---- a replay

-- what turns give
abbrev pub plan_replayed : Plan → List Turn → Result Replaying Refusal
plan_replayed plan schedule = replayed (replay_of plan.barred.target plan.setting plan.scripts plan.fuel) schedule

-- the report is that of the state to which turns lead, or they stop so
abbrev pub ReportsTurns : Document → Result Report Stop → ℕ → Result Replaying Refusal → Type 0
ReportsTurns document (Ok report) fuel given = (final : Final) × LeadsTo final fuel given × (report ≡ report_of document (core_of final))
ReportsTurns document (Err stop) fuel given = IsReplayRefused (refusal_of stop) given

-- a replay that stops, as it is told
abbrev pub fault_of : Stop → RunFault
fault_of (stops.StepOfNobody steps) = faults.Shape 10 steps
fault_of (stops.LongReplay steps) = faults.Shape 11 steps

-- what is answered for a replay that was made
abbrev pub answer_of : Result Report Stop → Result Report RunFault
answer_of (Ok report) = Ok report
answer_of (Err stop) = Err (fault_of stop)

-- ---- a run

-- callers that are ready run the plan
pub record IsReadyPlan (plan : Plan) (callers : ReadyShown) (scripts : List (List Call)) (fuel : ℕ) : Type 0 where
  pub fixed : callers.fixed ≡ record { target = plan.barred; setting = plan.setting }
  pub scripts_are : scripts ≡ plan.scripts
  pub fuel_is : fuel ≡ plan.fuel
  pub ready : IsReadyFor scripts callers

-- the report is that of a state in which a complete run of the scripts ends
pub record ReportsEnd (document : Document) (key : Fixed) (scripts : List (List Call)) (fuel : ℕ) (report : Report) : Type 0 where
  pub phase : ℕ
  pub entries : List RoomyEntry
  pub ends : IsFinalOf key scripts fuel phase entries
  pub report_is : report ≡ report_with document phase (map core_part entries)
