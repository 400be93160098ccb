-- The turn at which the replay of a document stops, by that of its plan.
use Rattle.std.proofs.Common.{ℕ, subst}
use Rattle.std.specs.Prelude.{Ok}
use Rattle.documents.specs.declared.document.Document.{Document}
use Rattle.script_plans.specs.declared.plan.Plan.{Plan}
use Rattle.script_plans.specs.Plans.{IsPlanned}
use Rattle.document_runs.specs.Stops.{PlanStopsAfter, AreWholeTurns}

pub stops_as_planned : (document : Document) (plan : Plan) (whole : ℕ) → IsPlanned document (Ok plan) → PlanStopsAfter plan document.schedule whole → AreWholeTurns document (Ok whole)
stops_as_planned document plan whole planned stops = (planned.1, subst (λ (p : Plan). PlanStopsAfter p document.schedule whole) planned.0 stops)
