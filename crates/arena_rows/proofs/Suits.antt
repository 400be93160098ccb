-- What a plan keeps suits a run.
use Rattle.core_runs.specs.Scripts.{SuitScripts}
use Rattle.script_plans.specs.declared.plan.Plan.{Plan}
use Rattle.script_plans.specs.Plans.{IsReady}

pub plan_suits : (plan : Plan) → IsReady plan → SuitScripts plan.barred.target plan.setting plan.scripts
plan_suits plan ready = record { count = ready.count; calls = ready.calls }
