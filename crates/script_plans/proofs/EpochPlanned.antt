-- Plans under epochs, against what their parts are.
use Rattle.std.proofs.Common.{◌≡◌, None, Result, Ok, Err, subst}
use Rattle.std.specs.Prelude.{List, IfOk}
use Rattle.norm_lang.specs.declared.text.Text.{Text}
use Rattle.norm_lang.specs.NormalForm.{IsNormal}
use Rattle.caller_parts.specs.declared.call.Call.{Call}
use Rattle.caller_parts.specs.Settings.{Setting}
use Rattle.documents.specs.declared.document.Document.{Document}
use Rattle.documents.specs.DocumentLimits.{IsWithinDocumentLimits}
use Rattle.script_plans.specs.declared.fault.ShapeFault.{ShapeFault}
use Rattle.script_plans.specs.declared.fault.RunFault.{RunFault}
use Rattle.script_plans.specs.declared.epoch_plan.EpochPlan.{EpochPlan}
use Rattle.script_plans.specs.Shapes.{epoch_setting_of, shape_fault}
use Rattle.script_plans.specs.Told.{fault_told, or_fault}
use Rattle.script_plans.specs.Plans.{calls_of, AllTakeWords, IsFaultOf}
use Rattle.script_plans.specs.EpochPlans.{IsEpochPlanned, IsEpochReady}
use Rattle.script_plans.proofs.Planned.{shapely, shapeless}
use Rattle.script_plans.proofs.Ready.{epoch_plan_is_ready}

pub is_shaped : (document : Document) (setting : Setting) → Ok setting ≡ or_fault (shape_fault document) (epoch_setting_of document) → (shape_fault document ≡ None) × (setting ≡ epoch_setting_of document)
is_shaped document setting shaped = shapely (shape_fault document) (epoch_setting_of document) setting shaped

pub is_misshapen : (document : Document) (fault : ShapeFault) → IsNormal document.text → Err fault ≡ or_fault (shape_fault document) (epoch_setting_of document) → IsFaultOf document (fault_told fault)
is_misshapen document fault normal shaped = (normal, shapeless (shape_fault document) (epoch_setting_of document) fault shaped)

pub is_planned : (document : Document) (text : Text) (setting : Setting) (scripts : List (List Call)) → text ≡ document.text → IsNormal document.text
    → (shape_fault document ≡ None) × (setting ≡ epoch_setting_of document) → scripts ≡ calls_of document
    → IsEpochPlanned document (Ok (record { normal = text; setting = setting; scripts = scripts; fuel = document.fuel }))
is_planned document text setting scripts same normal shape calls = (λ i. record { normal = same i; setting = shape.1 i; scripts = calls i; fuel = document.fuel }, record { normal = normal; shape = shape.0 })

pub planned_is_ready : (document : Document) (result : Result EpochPlan RunFault) → IsWithinDocumentLimits document → IsEpochPlanned document result
    → IfOk result (λ plan. AllTakeWords plan.scripts) → IfOk result (λ plan. IsEpochReady plan)
planned_is_ready document (Ok plan) within planned words =
    rw planned.0 (epoch_plan_is_ready document within planned.1 (subst (λ (p : EpochPlan). AllTakeWords p.scripts) planned.0 words))
planned_is_ready document (Err fault) within planned words = tt
