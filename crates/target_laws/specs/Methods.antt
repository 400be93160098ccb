-- A method of a target, and a caller that came along a path of it.
use Rattle.std.specs.Prelude.{◌≡◌, ℕ, Bool, true, false, List, Some, slice_get}
use Rattle.norm_lang.specs.declared.text.Instr.{Instr}
use Rattle.norm_lang.specs.declared.text.Op.{Op}
use Rattle.norm_lang.specs.declared.text.Text.{Text}
use Rattle.norm_lang.specs.Kept.{code_of}
use Rattle.target_code.specs.declared.target.TargetInstr.{TargetInstr}
use Rattle.target_code.specs.declared.target.TargetOp.{TargetOp}
use Rattle.target_code.specs.declared.target.Target.{Target}
use Rattle.target_code.specs.Paths.{target_code_of, TargetPath}

-- a method of a target, and the method of a text with the same number
pub record Method (target : Target) (text : Text) : Type 0 where
  pub number : ℕ
  pub wrapup : Bool
  pub op : Op
  pub compiled : TargetOp
  pub in_text : slice_get text.ops number ≡ Some op
  pub in_target : slice_get target.ops number ≡ Some compiled

-- its instructions in the target
abbrev pub code_in : {target : Target} {text : Text} → Method target text → List TargetInstr
code_in method = target_code_of method.compiled method.wrapup

-- and in the text, which is the target's source
abbrev pub source_in : {target : Target} {text : Text} → Method target text → List Instr
source_in method = code_of method.op method.wrapup

-- both methods of its operation
abbrev pub generator_of : {target : Target} {text : Text} → Method target text → Method target text
generator_of method = record method { wrapup = false }

abbrev pub wrapup_of : {target : Target} {text : Text} → Method target text → Method target text
wrapup_of method = record method { wrapup = true }

-- a caller came along a path of the target's method to an instruction
pub record Arrives {target : Target} {text : Text} (method : Method target text) (path : List ℕ) (at : ℕ) (i : TargetInstr) : Type 0 where
  pub leads : TargetPath (code_in method) path at
  pub stands : slice_get (code_in method) at ≡ Some i
