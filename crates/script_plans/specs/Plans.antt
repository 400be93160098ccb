-- The plan of a document: what its callers run.
use Rattle.std.specs.Prelude.{◌≡◌, ◌≤◌, true, List, map, length, Some, None, Result, Ok, Err, All}
use Rattle.norm_lang.specs.declared.text.Text.{Text}
use Rattle.norm_lang.specs.declared.text.Op.{Op}
use Rattle.norm_lang.specs.NormalForm.{IsNormal}
use Rattle.norm_lang.specs.Arguments.{are_words, padded}
use Rattle.norm_check.specs.Refusals.{IsRefused}
use Rattle.target_code.specs.declared.target.Target.{Target}
use Rattle.target_code.specs.SecondScheme.{second_scheme}
use Rattle.caller_parts.specs.declared.call.Call.{Call}
use Rattle.caller_parts.specs.Settings.{Fits}
use Rattle.caller_parts.specs.Calls.{AreCalls}
use Rattle.documents.specs.declared.document.ScriptCall.{ScriptCall}
use Rattle.documents.specs.declared.document.Document.{Document}
use Rattle.documents.specs.DocumentLimits.{AreShort}
use Rattle.script_plans.specs.declared.fault.RunFault.{RunFault}
use Rattle.script_plans.specs.declared.fault.RunFault.TheVariants as faults
use Rattle.script_plans.specs.declared.plan.Plan.{Plan}
use Rattle.script_plans.specs.Shapes.{op_number, setting_of, shape_fault}

-- the code that its callers run: its text, compiled by combined checks
abbrev pub target_of : Document → Target
target_of document = second_scheme document.text

-- what a call line calls
abbrev pub call_of : List Op → ScriptCall → Call
call_of ops call = record { op = op_number ops call.name; args = padded call.args }

-- the calls of each caller, in order
abbrev pub calls_of : Document → List (List Call)
calls_of document = map (map (call_of document.text.ops)) document.scripts

-- the arguments of each call are words, and so are those of each script's calls
abbrev pub TakeWords : List Call → Type 0
TakeWords calls = All (λ (call : Call). are_words call.args ≡ true) calls

abbrev pub AllTakeWords : List (List Call) → Type 0
AllTakeWords scripts = All TakeWords scripts

abbrev pub plan_for : Document → Plan
plan_for document = record {
  barred = record { target = target_of document; source = document.text };
  setting = setting_of document;
  scripts = calls_of document;
  fuel = document.fuel;
}

-- a document has no plan if the rules refuse its text, with the first rule that is broken, and else if its shape has a
-- fault, with the first of them. If memory runs out, nothing is told
abbrev pub IsFaultOf : Document → RunFault → Type 0
IsFaultOf document faults.Memory = Unit {0}
IsFaultOf document (faults.Refused refusal) = IsRefused document.text refusal
IsFaultOf document (faults.Shape number at) = IsNormal document.text × (shape_fault document ≡ Some (record { number = number; at = at }))

-- the rules accept its text, and its shape has no fault
pub record IsRunnable (document : Document) : Type 0 where
  pub normal : IsNormal document.text
  pub shape : shape_fault document ≡ None

-- the text of a document that can be run, or why it can't
abbrev pub IsReadied : Document → Result Text RunFault → Type 0
IsReadied document (Ok text) = (text ≡ document.text) × IsRunnable document
IsReadied document (Err fault) = IsFaultOf document fault

abbrev pub IsPlanned : Document → Result Plan RunFault → Type 0
IsPlanned document (Ok plan) = (plan ≡ plan_for document) × IsRunnable document
IsPlanned document (Err fault) = IsFaultOf document fault

-- what a plan keeps: its setting fits its target, each caller has a script of calls of the target, none too long, and each call
-- may make a step
pub record IsReady (plan : Plan) : Type 0 where
  pub fits : Fits plan.barred.target plan.setting
  pub count : length plan.scripts ≡ plan.setting.sizes.callers
  pub calls : All (AreCalls plan.barred.target) plan.scripts
  pub short : AreShort plan.scripts
  pub fuel : 1 ≤ plan.fuel
