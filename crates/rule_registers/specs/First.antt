-- The register that is named if a text is refused.
use Rattle.std.specs.Prelude.{◌≡◌, ℕ, ◌<◌, ◌⊎◌, Bool, Option, Some, None, slice_get, IsSomeAnd}
use Rattle.norm_lang.specs.declared.text.Reg.{Reg}
use Rattle.norm_lang.specs.declared.text.Text.{Text}
use Rattle.norm_lang.specs.Kept.{code_of}
use Rattle.norm_lang.specs.NormalForm.{Rule, rule_number}
use Rattle.norm_check.specs.declared.refusal.Refusal.{Refusal}
use Rattle.norm_paths.specs.Found.{all_registers}
use Rattle.rule_registers.specs.AtFault.{IsAtFault}

-- the text has the instruction, and the register is at fault there by the rule
abbrev pub AtFault : Rule → Text → ℕ → Bool → ℕ → Reg → Type 0
AtFault rule text number wrapup at r =
    IsSomeAnd (slice_get text.ops number) (λ op.
    IsSomeAnd (slice_get (code_of op wrapup) at) (λ i.
    IsAtFault rule text op wrapup at i r))

-- the first register of which this holds, in the order n0 to n7 and r0 to r7, or none if it holds of none
abbrev pub IsFirst : (Reg → Type 0) → Option Reg → Type 0
IsFirst P None = (k : ℕ) (r : Reg) → slice_get all_registers k ≡ Some r → ¬ P r
IsFirst P (Some r) =
    (k : ℕ) × (slice_get all_registers k ≡ Some r) × P r × ((j : ℕ) (s : Reg) → j < k → slice_get all_registers j ≡ Some s → ¬ P s)

-- no rule has this number
abbrev pub IsNoRule : ℕ → Type 0
IsNoRule n = (n ≡ 0) ⊎ (15 < n)

-- the first register that is at fault by the rule that a refusal names, at the instruction that it names; none if it names no rule
abbrev pub IsFirstAtFault : Text → Refusal → Option Reg → Type 0
IsFirstAtFault text refusal found =
    ((rule : Rule) → rule_number rule ≡ refusal.rule → IsFirst (AtFault rule text refusal.op refusal.wrapup refusal.at) found)
    × (IsNoRule refusal.rule → found ≡ None)
