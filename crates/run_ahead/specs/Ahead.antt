-- A core caller walks through a method of a barred target, and the source's local code runs ahead of it.
use Rattle.std.specs.Prelude.{◌≡◌, ◌≢◌, ℕ, ◌⊎◌, List, IsTrue}
use Rattle.norm_lang.specs.declared.text.Reg.{Reg}
use Rattle.norm_lang.specs.declared.text.Reg.TheVariants.{Ref}
use Rattle.norm_lang.specs.declared.text.Text.{Text}
use Rattle.norm_lang.specs.declared.registers.Registers.{Registers}
use Rattle.norm_lang.specs.Limits.{IsWithinLimits}
use Rattle.norm_lang.specs.Local.{Spot}
use Rattle.norm_lang.specs.NormalForm.{IsNormal}
use Rattle.norm_lang.specs.Registers.{node_in}
use Rattle.target_laws.specs.local_laws.Settling.{Settles}
use Rattle.target_code.specs.declared.target.Target.{Target}
use Rattle.target_code.specs.Barred.{IsBarred}
use Rattle.target_code.specs.Erasing.{source_place, ErasesTo}
use Rattle.target_code.specs.Paths.{TargetPath}
use Rattle.target_laws.specs.Methods.{Method, code_in, source_in}
use Rattle.target_laws.specs.Trusted.{Trust, Trusted, Unchecked, Spoilt, trust_at_start, carried_in, trust_along}
use Rattle.run_ahead.specs.Agreeing.{Agree, HaveSameSize, AreApart}

-- a text in normal form (Timnat and Petrank, PPoPP 2014), within the limits, and a target that erases to it
pub record IsErased (target : Target) (text : Text) : Type 0 where
  pub normal : IsNormal text
  pub within : IsWithinLimits text
  pub erases : ErasesTo target text

-- and one that is barred for it
pub record IsCompiled (target : Target) (text : Text) : Type 0 where
  pub normal : IsNormal text
  pub within : IsWithinLimits text
  pub barred : IsBarred target text

-- a barred target erases to its text
abbrev pub erasing : {target : Target} {text : Text} → IsCompiled target text → IsErased target text
erasing compiled = record { normal = compiled.normal; within = compiled.within; erases = compiled.barred.erases }

-- what holds of a register, as far as it can be trusted. `calm` says that the caller wasn't warned: until a check has passed,
-- what was loaded is right on that condition alone (Cohen and Petrank, SPAA 2015)
abbrev pub AsTrusted : Type 0 → Trust → Type 0 → Type 0
AsTrusted calm Trusted A = A
AsTrusted calm Unchecked A = calm → A
AsTrusted calm Spoilt A = Unit {0}

-- a name is null, or a register that is trusted holds it
abbrev pub IsHeld : (Reg → Trust) → Registers → ℕ → Type 0
IsHeld trust mirror n = (n ≡ 0) ⊎ ((r : ℕ) × (trust (Ref r) ≡ Trusted) × (node_in mirror r ≡ n))

-- a name is null, or a register holds it that is trusted, or will be if the next check passes
abbrev pub IsHoped : (Reg → Trust) → Registers → ℕ → Type 0
IsHoped trust mirror n = (n ≡ 0) ⊎ ((r : ℕ) × (trust (Ref r) ≢ Spoilt) × (node_in mirror r ≡ n))

-- the caller came along a path to a spot of the method. The mirror is what the source held when it was at the caller's place,
-- and its local code from there settles at the spot where the source is now
pub record Ahead {target : Target} {text : Text} (method : Method target text) (home : ℕ → ℕ) (calm : Type 0)
    (path : List ℕ) (core : Spot) (mirror : Registers) (there : Spot) : Type 0 where
  pub path_is : TargetPath (code_in method) path core.at
  pub sized : HaveSameSize core.registers mirror
  pub agree : (r : Reg) → AsTrusted calm (trust_along method path r) (Agree home core.registers mirror r)
  pub apart : AreApart home (IsHeld (trust_along method path) mirror)
  pub settles : Settles (source_in method) (record { at = source_place (code_in method) core.at; registers = mirror }) there

-- the registers with which a method begins, the core's and the source's
pub record IsStart {target : Target} {text : Text} (method : Method target text) (home : ℕ → ℕ) (first started : Registers) : Type 0 where
  pub sized : HaveSameSize first started
  pub agree : (r : Reg) → IsTrue (carried_in method r) → Agree home first started r
  pub apart : AreApart home (IsHeld (λ r. trust_at_start (carried_in method r)) started)
