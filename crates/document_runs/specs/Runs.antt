-- What a document's run and its replay answer.
use Rattle.std.specs.Prelude.{◌≡◌, List, [], ◌∷◌, Option, Some, None, Result, Ok, Err}
use Rattle.norm_lang.specs.NormalForm.{IsNormal}
use Rattle.norm_check.specs.Refusals.{IsRefused}
use Rattle.core_runs.specs.Machine.{CoreState, CoreEvent}
use Rattle.core_runs.specs.Scripts.{IsCompleteRun}
use Rattle.core_runs.specs.Replays.{Replaying, Refusal, StepOfNobody, LongReplay, replayed}
use Rattle.oa_core.specs.Finals.{replay_of}
use Rattle.documents.specs.declared.document.Document.{Document}
use Rattle.script_plans.specs.declared.fault.ShapeFault.{ShapeFault}
use Rattle.script_plans.specs.declared.fault.RunFault.{RunFault}
use Rattle.script_plans.specs.declared.fault.RunFault.TheVariants as faults
use Rattle.script_plans.specs.Shapes.{first_of, setting_of, shape_fault}
use Rattle.script_plans.specs.Plans.{target_of, calls_of, IsFaultOf, IsRunnable}
use Rattle.document_runs.specs.declared.report.Report.{Report}
use Rattle.document_runs.specs.Reports.{report_of}

-- a complete run of a document: a core run of its compiled text in which each caller takes the calls of its script in order, makes
-- at most `fuel` steps for each, and has ended its script or a call for which that many were made
abbrev pub IsCompleteRunOf : Document → List CoreEvent → CoreState → Type 0
IsCompleteRunOf document events state = IsCompleteRun (target_of document) (setting_of document) (calls_of document) document.fuel events state

-- ---- a run

-- a report is that of the state in which some complete run ends; a fault is one of the document's
abbrev pub IsRan : Document → Result Report RunFault → Type 0
IsRan document (Ok report) =
    IsRunnable document × (events : List CoreEvent) × (state : CoreState) × IsCompleteRunOf document events state × (report ≡ report_of document state)
IsRan document (Err fault) = IsFaultOf document fault

-- ---- a replay

-- what the turns of the document's schedule give, and then each caller to its end
abbrev pub replay_given : Document → Result Replaying Refusal
replay_given document = replayed (replay_of (target_of document) (setting_of document) (calls_of document) document.fuel) document.schedule

-- 10 if a turn needs a step of a caller that has none to take, with the steps made before; 11 if too many were made, with
-- their count
abbrev pub refusal_fault : Result Replaying Refusal → Option ShapeFault
refusal_fault (Ok r) = None
refusal_fault (Err (StepOfNobody steps)) = Some (record { number = 10; at = steps })
refusal_fault (Err (LongReplay steps)) = Some (record { number = 11; at = steps })

-- what is wrong with the shape of a document that is replayed: the schedule is judged last
abbrev pub replay_fault : Document → Option ShapeFault
replay_fault document = first_of (shape_fault document ∷ refusal_fault (replay_given document) ∷ [])

abbrev pub IsReplayFaultOf : Document → RunFault → Type 0
IsReplayFaultOf document faults.Memory = Unit {0}
IsReplayFaultOf document (faults.Refused refusal) = IsRefused document.text refusal
IsReplayFaultOf document (faults.Shape number at) = IsNormal document.text × (replay_fault document ≡ Some (record { number = number; at = at }))

-- a report is that of the state to which the turns lead, which ends a complete run
abbrev pub IsReplayed : Document → Result Report RunFault → Type 0
IsReplayed document (Ok report) =
    IsRunnable document × (r : Replaying) × (replay_given document ≡ Ok r) × IsCompleteRunOf document r.events r.state × (report ≡ report_of document r.state)
IsReplayed document (Err fault) = IsReplayFaultOf document fault
