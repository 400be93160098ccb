-- Comparing what is left of a target's code with a text's.
use Rattle.std.proofs.Common.{◌≡◌, ℕ, Bool, List, [], ◌∷◌, refl, ap, subst}
use Rattle.std.specs.Bool.{Decides}
use Rattle.norm_lang.specs.declared.text.Instr.{Instr}
use Rattle.norm_lang.specs.declared.text.Instr.TheVariants.{Cas, Jump, IfEq, IfLess, IfMarked}
use Rattle.target_code.specs.declared.target.TargetInstr.{TargetInstr}
use Rattle.target_code.specs.declared.target.TargetInstr.TheVariants.{Plain, Check, Guard}
use Rattle.target_code.specs.Erasing.{redirected, plain_code, erased_code, source_place}
use Rattle.barrier_check.specs.declared.places.Places.{Places}
use Rattle.barrier_check.specs.SourcePlaces.{place_by, ArePlaces}

redirected_same : (one other : ℕ → ℕ) → ((at : ℕ) → one at ≡ other at) → (i : Instr) → redirected one i ≡ redirected other i
redirected_same one other same (Cas entry l) = ap (Cas entry) (same l)
redirected_same one other same (Jump l) = ap Jump (same l)
redirected_same one other same (IfEq a b l) = ap (IfEq a b) (same l)
redirected_same one other same (IfLess a b l) = ap (IfLess a b) (same l)
redirected_same one other same (IfMarked a l) = ap (IfMarked a) (same l)
redirected_same one other same _ = refl

-- jumps that lead to the same places leave the same code
pub code_same : (one other : ℕ → ℕ) → ((at : ℕ) → one at ≡ other at) → (code : List TargetInstr) → plain_code one code ≡ plain_code other code
code_same one other same [] = refl
code_same one other same (Plain i ∷ code) = rw (redirected_same one other same i, code_same one other same code) refl
code_same one other same (Check ∷ code) = code_same one other same code
code_same one other same (Guard r ∷ code) = code_same one other same code

pub erased_by : (places : Places) (code : List TargetInstr) (source : List Instr) (same : Bool) → ArePlaces code places
    → Decides same (plain_code (place_by places) code ≡ source) → Decides same (erased_code code ≡ source)
erased_by places code source same are decides =
    subst (λ (left : List Instr). Decides same (left ≡ source)) (code_same (place_by places) (source_place code) are code) decides
