-- A text's code as that of a target.
use Rattle.std.proofs.Common.{◌≡◌, ℕ, suc, Bool, true, false, List, [], ◌∷◌, length, map, Option, Some, None, refl, sym, ◌∙◌, ap}
use Rattle.std.specs.Prelude.{slice_get, option_map}
use Rattle.std.proofs.lemmas.Option.{slice_get-map}
use Rattle.norm_lang.specs.declared.text.Instr.{Instr}
use Rattle.norm_lang.specs.declared.text.Op.{Op}
use Rattle.target_code.specs.declared.target.TargetInstr.{TargetInstr}
use Rattle.target_code.specs.declared.target.TargetInstr.TheVariants.{Plain}
use Rattle.target_code.specs.Bare.{bare_op}
use Rattle.caller_parts.specs.Operands.{method_code}

pub bare_length : (code : List Instr) → length code ≡ length (map Plain code)
bare_length [] = refl
bare_length (i ∷ code) = ap suc (bare_length code)

-- an instruction of a text's code stands in that of the target
pub bare_there : (code : List Instr) (at : ℕ) (found : Option Instr) → found ≡ slice_get code at → option_map Plain found ≡ slice_get (map Plain code) at
bare_there code at found is = ap (option_map Plain) is ∙ sym (slice_get-map Plain code at)

abbrev pub code_of_op : Option Op → Bool → List TargetInstr
code_of_op None wrapup = []
code_of_op (Some op) false = map Plain op.generator
code_of_op (Some op) true = map Plain op.wrapup

method_of : (op : Option Op) (wrapup : Bool) → method_code (option_map bare_op op) wrapup ≡ code_of_op op wrapup
method_of None wrapup = refl
method_of (Some op) false = refl
method_of (Some op) true = refl

-- the code of a text's method
pub bare_code : (ops : List Op) (number : ℕ) (wrapup : Bool) (op : Option Op) → op ≡ slice_get ops number
    → code_of_op op wrapup ≡ method_code (slice_get (map bare_op ops) number) wrapup
bare_code ops number wrapup op is = sym (ap (λ o. method_code o wrapup) (slice_get-map bare_op ops number ∙ ap (option_map bare_op) (sym is)) ∙ method_of op wrapup)

pub no_code : (ops : List Op) (number : ℕ) (wrapup : Bool) → None ≡ slice_get ops number → [] ≡ method_code (slice_get (map bare_op ops) number) wrapup
no_code ops number wrapup is = bare_code ops number wrapup None is

pub wrapup_code : (ops : List Op) (number : ℕ) (wrapup : Bool) (op : Op) (code : List Instr) → Some op ≡ slice_get ops number → wrapup ≡ true → code ≡ op.wrapup
    → map Plain code ≡ method_code (slice_get (map bare_op ops) number) wrapup
wrapup_code ops number wrapup op code is ends same = ap (map Plain) same ∙ ap (code_of_op (Some op)) (sym ends) ∙ bare_code ops number wrapup (Some op) is

pub generator_code : (ops : List Op) (number : ℕ) (wrapup : Bool) (op : Op) (code : List Instr) → Some op ≡ slice_get ops number → wrapup ≡ false
    → code ≡ op.generator → map Plain code ≡ method_code (slice_get (map bare_op ops) number) wrapup
generator_code ops number wrapup op code is ends same = ap (map Plain) same ∙ ap (code_of_op (Some op)) (sym ends) ∙ bare_code ops number wrapup (Some op) is
