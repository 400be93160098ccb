-- A bare target has the text's instructions, place by place.
use Rattle.std.proofs.Common.{ℕ, ◌≡◌, ◌∙◌, List, map, Option, Some, None, option_map, sym, ap, refl}
use Rattle.std.specs.Prelude.{slice_get}
use Rattle.std.proofs.lemmas.Option.{slice_get-map}
use Rattle.norm_lang.specs.declared.text.Instr.{Instr}
use Rattle.norm_lang.specs.declared.text.Instr.TheVariants as instr
use Rattle.norm_lang.specs.declared.text.Text.{Text}
use Rattle.norm_lang.specs.declared.registers.Registers.{Registers}
use Rattle.norm_lang.specs.Local.{local_step}
use Rattle.target_code.specs.declared.target.TargetInstr.{TargetInstr}
use Rattle.target_code.specs.declared.target.TargetInstr.TheVariants.{Plain}
use Rattle.target_code.specs.declared.target.TargetOp.{TargetOp}
use Rattle.target_code.specs.declared.target.Target.{Target}
use Rattle.target_code.specs.Erasing.{redirected}
use Rattle.target_code.specs.Paths.{target_code_of}
use Rattle.target_laws.specs.Methods.{Method, code_in, source_in}
use Rattle.target_code.specs.Bare.{bare_op, bare}
use Rattle.bare_targets.proofs.PlainCode.{code_is_plain, ops_are_the_texts}

some_op : (a b : TargetOp) → Some a ≡ Some b → a ≡ b
some_op a b is = cc

compiled_is : {target : Target} {text : Text} → target ≡ bare text → (method : Method target text) → method.compiled ≡ bare_op method.op
compiled_is {target = target} {text = text} same method =
    some_op method.compiled (bare_op method.op)
    (sym method.in_target ∙ (ap (λ (t : Target). slice_get t.ops method.number) same ∙ (ops_are_the_texts text method.number ∙ ap (option_map bare_op) method.in_text)))

-- each method of it
pub code_is : {target : Target} {text : Text} → target ≡ bare text → (method : Method target text) → code_in method ≡ map Plain (source_in method)
code_is same method = ap (λ (op : TargetOp). target_code_of op method.wrapup) (compiled_is same method) ∙ code_is_plain method.op method.wrapup

-- each instruction
pub instr_is : {target : Target} {text : Text} → target ≡ bare text → (method : Method target text) (at : ℕ) → slice_get (code_in method) at ≡ option_map Plain (slice_get (source_in method) at)
instr_is same method at = ap (λ (code : List TargetInstr). slice_get code at) (code_is same method) ∙ slice_get-map Plain (source_in method) at

plain_of : (o : Option Instr) (i : Instr) → option_map Plain o ≡ Some (Plain i) → o ≡ Some i
plain_of None i is = absurd (let z : None ≡ Some (Plain i) = is in cc)
plain_of (Some j) i is = let same : Plain j ≡ Plain i = cc in let same' : j ≡ i = cc in ap Some same'

pub in_source : {target : Target} {text : Text} → target ≡ bare text → (method : Method target text) (at : ℕ) (i : Instr) → slice_get (code_in method) at ≡ Some (Plain i) → slice_get (source_in method) at ≡ Some i
in_source same method at i is = plain_of (slice_get (source_in method) at) i (sym (instr_is same method at) ∙ is)

-- if no jump is taken elsewhere, nothing changes
pub undirected : (i : Instr) → redirected (λ at. at) i ≡ i
undirected (instr.Set d n) = refl
undirected _ = refl

-- whether an instruction is local doesn't depend on registers
pub local_none : (i : Instr) (at : ℕ) (registers other : Registers) → local_step i at registers ≡ None → local_step i at other ≡ None
local_none (instr.LoadRoot d x) at registers other is = refl
local_none (instr.LoadPick d x n a) at registers other is = refl
local_none (instr.LoadField d a f) at registers other is = refl
local_none (instr.New d kind) at registers other is = refl
local_none (instr.Put a f b) at registers other is = refl
local_none (instr.Cas entry l) at registers other is = refl
local_none (instr.Commit entries) at registers other is = refl
local_none (instr.Return a) at registers other is = refl
local_none instr.ReturnNone at registers other is = refl
local_none instr.Again at registers other is = refl
local_none _ at registers other is = absurd cc
