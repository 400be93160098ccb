-- The plan of a document under epochs: its callers run its text as it is.
use Rattle.std.specs.Prelude.{◌≡◌, ◌≤◌, length, Result, Ok, Err, All}
use Rattle.target_code.specs.Bare.{bare}
use Rattle.caller_parts.specs.Settings.{Fits}
use Rattle.caller_parts.specs.declared.setting.Reclamation.TheVariants.{Epochs}
use Rattle.caller_parts.specs.Calls.{AreCalls}
use Rattle.documents.specs.declared.document.Document.{Document}
use Rattle.documents.specs.DocumentLimits.{AreShort}
use Rattle.script_plans.specs.declared.fault.RunFault.{RunFault}
use Rattle.script_plans.specs.declared.epoch_plan.EpochPlan.{EpochPlan}
use Rattle.script_plans.specs.Shapes.{epoch_setting_of}
use Rattle.script_plans.specs.Plans.{calls_of, IsFaultOf, IsRunnable}

abbrev pub epoch_plan_for : Document → EpochPlan
epoch_plan_for document = record { normal = document.text; setting = epoch_setting_of document; scripts = calls_of document; fuel = document.fuel }

-- the faults are those of a plan
abbrev pub IsEpochPlanned : Document → Result EpochPlan RunFault → Type 0
IsEpochPlanned document (Ok plan) = (plan ≡ epoch_plan_for document) × IsRunnable document
IsEpochPlanned document (Err fault) = IsFaultOf document fault

-- what a plan keeps: its setting is one of epochs and fits its text, each caller has a script of calls of the text, none too long, and each call may
-- make a step
pub record IsEpochReady (plan : EpochPlan) : Type 0 where
  pub fits : Fits (bare plan.normal) plan.setting
  pub epochs : plan.setting.reclamation ≡ Epochs
  pub count : length plan.scripts ≡ plan.setting.sizes.callers
  pub calls : All (AreCalls (bare plan.normal)) plan.scripts
  pub short : AreShort plan.scripts
  pub fuel : 1 ≤ plan.fuel
