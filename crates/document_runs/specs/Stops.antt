-- The turn at which the replay of a document stops.
use Rattle.std.specs.Prelude.{ℕ, List, Result, Ok, Err}
use Rattle.schedule_turns.specs.declared.turn.Turn.{Turn}
use Rattle.core_runs.specs.Replays.{Replay, replay_start}
use Rattle.oa_core.specs.Finals.{replay_of}
use Rattle.oa_core.specs.Stops.{StopsAfter}
use Rattle.documents.specs.declared.document.Document.{Document}
use Rattle.script_plans.specs.declared.fault.RunFault.{RunFault}
use Rattle.script_plans.specs.declared.plan.Plan.{Plan}
use Rattle.script_plans.specs.Shapes.{setting_of}
use Rattle.script_plans.specs.Plans.{target_of, calls_of, IsFaultOf, IsRunnable}

-- what a plan replays, and what a document
abbrev pub plan_replay : Plan → Replay
plan_replay plan = replay_of plan.barred.target plan.setting plan.scripts plan.fuel

abbrev pub document_replay : Document → Replay
document_replay document = replay_of (target_of document) (setting_of document) (calls_of document) document.fuel

-- from the start on so many turns are made whole, and the replay stops at the next one, if there is one
abbrev pub PlanStopsAfter : Plan → List Turn → ℕ → Type 0
PlanStopsAfter plan schedule whole = StopsAfter (plan_replay plan) schedule (replay_start (plan_replay plan)) whole

abbrev pub DocumentStopsAfter : Document → ℕ → Type 0
DocumentStopsAfter document whole = StopsAfter (document_replay document) document.schedule (replay_start (document_replay document)) whole

-- how many turns of its schedule are made whole, or why there is no replay
abbrev pub AreWholeTurns : Document → Result ℕ RunFault → Type 0
AreWholeTurns document (Ok whole) = IsRunnable document × DocumentStopsAfter document whole
AreWholeTurns document (Err fault) = IsFaultOf document fault
