-- Comparing a target's code with a text's, instruction by instruction.
use Rattle.std.specs.Prelude.{◌≡◌, ◌↔◌, ℕ, List, ◌∷◌, Option, Some, None}
use Rattle.norm_lang.specs.declared.text.Instr.{Instr}
use Rattle.target_code.specs.declared.target.TargetInstr.{TargetInstr}
use Rattle.target_code.specs.Erasing.{plain_code}

-- what is left of a text's code after an instruction of a target: whatever comes after that gives the whole exactly if
-- it gives this rest. With no rest nothing gives the whole
abbrev pub Leaves : (ℕ → ℕ) → TargetInstr → List Instr → Option (List Instr) → Type 0
Leaves place i source None = (code : List TargetInstr) → ¬ (plain_code place (i ∷ code) ≡ source)
Leaves place i source (Some rest) = (code : List TargetInstr) → (plain_code place (i ∷ code) ≡ source) ↔ (plain_code place code ≡ rest)
