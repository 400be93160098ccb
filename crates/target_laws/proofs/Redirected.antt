-- An instruction whose jump is taken elsewhere does what it did, but for where the jump leads.
use Rattle.std.proofs.Common.{◌≡◌, ℕ, Bool, true, false, List, refl}
use Rattle.norm_lang.specs.declared.text.Reg.{Reg}
use Rattle.norm_lang.specs.declared.text.FieldDecl.{FieldDecl}
use Rattle.norm_lang.specs.declared.text.RootDecl.{RootDecl}
use Rattle.norm_lang.specs.declared.text.Instr.{Instr}
use Rattle.norm_lang.specs.declared.text.Instr.TheVariants as instr
use Rattle.norm_lang.specs.Grammar.{is_new}
use Rattle.norm_lang.specs.InstructionRules.{has_wrong_kind, computes_on_reference, is_end_of_other, has_wrong_retire}
use Rattle.norm_lang.specs.PathRules.{looks, reads_openly, follows, exchanges}
use Rattle.norm_lang.specs.RegisterUse.{sets, reads}
use Rattle.target_code.specs.Erasing.{redirected}

pub sets_redirected : (r : Reg) (place : ℕ → ℕ) (i : Instr) → sets r (redirected place i) ≡ sets r i
sets_redirected r place (instr.Cas entry l) = refl
sets_redirected r place _ = refl

pub reads_redirected : (r : Reg) (place : ℕ → ℕ) (i : Instr) → reads r (redirected place i) ≡ reads r i
reads_redirected r place (instr.Cas entry l) = refl
reads_redirected r place _ = refl

pub follows_redirected : (r : Reg) (place : ℕ → ℕ) (i : Instr) → follows r (redirected place i) ≡ follows r i
follows_redirected r place (instr.Cas entry l) = refl
follows_redirected r place _ = refl

pub exchanges_redirected : (r : Reg) (place : ℕ → ℕ) (i : Instr) → exchanges r (redirected place i) ≡ exchanges r i
exchanges_redirected r place (instr.Cas entry l) = refl
exchanges_redirected r place _ = refl

pub openly_redirected : (r : Reg) (place : ℕ → ℕ) (i : Instr) → reads_openly r (redirected place i) ≡ reads_openly r i
openly_redirected r place (instr.Cas entry l) = refl
openly_redirected r place _ = refl

pub is_new_redirected : (place : ℕ → ℕ) (i : Instr) → is_new (redirected place i) ≡ is_new i
is_new_redirected place (instr.Cas entry l) = refl
is_new_redirected place _ = refl

pub looks_redirected : (place : ℕ → ℕ) (i : Instr) → looks (redirected place i) ≡ looks i
looks_redirected place (instr.Cas entry l) = refl
looks_redirected place _ = refl

pub kinds_redirected : (fields : List FieldDecl) (roots : List RootDecl) (place : ℕ → ℕ) (i : Instr) → has_wrong_kind fields roots (redirected place i) ≡ has_wrong_kind fields roots i
kinds_redirected fields roots place (instr.Cas entry l) = refl
kinds_redirected fields roots place _ = refl

pub numbers_redirected : (place : ℕ → ℕ) (i : Instr) → computes_on_reference (redirected place i) ≡ computes_on_reference i
numbers_redirected place (instr.Cas entry l) = refl
numbers_redirected place _ = refl

pub retired_redirected : (place : ℕ → ℕ) (i : Instr) → has_wrong_retire (redirected place i) ≡ has_wrong_retire i
retired_redirected place (instr.Cas entry l) = refl
retired_redirected place _ = refl

pub end_redirected : (wrapup : Bool) (place : ℕ → ℕ) (i : Instr) → is_end_of_other wrapup (redirected place i) ≡ is_end_of_other wrapup i
end_redirected false place (instr.Cas entry l) = refl
end_redirected true place (instr.Cas entry l) = refl
end_redirected _ place _ = refl
