-- Plans, against what their parts are.
use Rattle.std.proofs.Common.{◌≡◌, List, Option, Some, None, Result, Ok, Err, refl, ap, subst, ◌∙◌}
use Rattle.std.specs.Prelude.{IfOk}
use Rattle.norm_lang.specs.declared.text.Text.{Text}
use Rattle.norm_lang.specs.NormalForm.{IsNormal}
use Rattle.target_code.specs.SecondScheme.{second_scheme}
use Rattle.barrier_check.specs.Paired.{Paired}
use Rattle.caller_parts.specs.declared.call.Call.{Call}
use Rattle.caller_parts.specs.Settings.{Setting}
use Rattle.documents.specs.declared.document.Document.{Document}
use Rattle.documents.specs.DocumentLimits.{IsWithinDocumentLimits}
use Rattle.script_plans.specs.declared.fault.ShapeFault.{ShapeFault}
use Rattle.script_plans.specs.declared.fault.RunFault.{RunFault}
use Rattle.script_plans.specs.declared.plan.Plan.{Plan}
use Rattle.script_plans.specs.Shapes.{setting_of, shape_fault}
use Rattle.script_plans.specs.Told.{fault_told, or_fault}
use Rattle.script_plans.specs.Plans.{calls_of, AllTakeWords, IsFaultOf, IsPlanned, IsReady}
use Rattle.script_plans.proofs.Ready.{plan_is_ready}

pub shapely : (fault : Option ShapeFault) (asked setting : Setting) → Ok setting ≡ or_fault fault asked → (fault ≡ None) × (setting ≡ asked)
shapely None asked setting is = (refl, cc)
shapely (Some fault) asked setting is = cc

pub shapeless : (told : Option ShapeFault) (asked : Setting) (fault : ShapeFault) → Err fault ≡ or_fault told asked → told ≡ Some fault
shapeless None asked fault is = cc
shapeless (Some told) asked fault is = let same : told ≡ fault = cc in ap (λ (f : ShapeFault). Some f) same

pub is_planned : (document : Document) (text : Text) (barred : Paired) (setting : Setting) (scripts : List (List Call)) → text ≡ document.text → IsNormal document.text
    → Ok setting ≡ or_fault (shape_fault document) (setting_of document) → barred ≡ record { target = second_scheme text; source = text } → scripts ≡ calls_of document
    → IsPlanned document (Ok (record { barred = barred; setting = setting; scripts = scripts; fuel = document.fuel }))
is_planned document text barred setting scripts same normal shaped paired calls =
    let shape = shapely (shape_fault document) (setting_of document) setting shaped in
    let code : barred ≡ record { target = second_scheme document.text; source = document.text } = paired ∙ ap (λ (t : Text). record { target = second_scheme t; source = t }) same in
    (rw (code, shape.1, calls) refl, record { normal = normal; shape = shape.0 })

pub is_misshapen : (document : Document) (fault : ShapeFault) → IsNormal document.text → Err fault ≡ or_fault (shape_fault document) (setting_of document) → IsFaultOf document (fault_told fault)
is_misshapen document fault normal shaped = (normal, shapeless (shape_fault document) (setting_of document) fault shaped)

pub planned_is_ready : (document : Document) (result : Result Plan RunFault) → IsWithinDocumentLimits document → IsPlanned document result
    → IfOk result (λ plan. AllTakeWords plan.scripts) → IfOk result (λ plan. IsReady plan)
planned_is_ready document (Ok plan) within planned words =
    rw planned.0 (plan_is_ready document within planned.1 (subst (λ (p : Plan). AllTakeWords p.scripts) planned.0 words))
planned_is_ready document (Err fault) within planned words = tt
