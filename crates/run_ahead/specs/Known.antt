-- The names that registers hold in a method run: those that the run loaded or made, and those that it began with.
use Rattle.std.specs.Prelude.{◌≡◌, ℕ, ◌⊎◌, Bool, true, false, List, IsTrue}
use Rattle.norm_lang.specs.declared.text.Reg.TheVariants.{Ref}
use Rattle.norm_lang.specs.declared.text.Text.{Text}
use Rattle.norm_lang.specs.declared.registers.Registers.{Registers}
use Rattle.norm_lang.specs.Kept.{IsKept}
use Rattle.norm_lang.specs.Registers.{node_in}
use Rattle.source_machine.specs.Proper.{has}
use Rattle.target_code.specs.declared.target.Target.{Target}
use Rattle.target_laws.specs.Methods.{Method, code_in}
use Rattle.target_code.specs.PathStates.{is_set_along}

-- null, or a name that the run has got
abbrev pub IsGot : List ℕ → ℕ → Type 0
IsGot got n = (n ≡ 0) ⊎ (has n got ≡ true)

-- whether a register of references was set on a path of a method
abbrev pub is_set_in : {target : Target} {text : Text} → Method target text → List ℕ → ℕ → Bool
is_set_in method path r = is_set_along (code_in method) path (Ref r) false

-- a register that was set holds null or a name that the run has got, and any other holds what it held at the start
pub record AreGot {target : Target} {text : Text} (method : Method target text) (path : List ℕ) (started mirror : Registers) (got : List ℕ) : Type 0 where
  pub set : (r : ℕ) → is_set_in method path r ≡ true → IsGot got (node_in mirror r)
  pub unset : (r : ℕ) → is_set_in method path r ≡ false → node_in mirror r ≡ node_in started r

-- a name that a wrap-up keeps: a kept register has it, and had it at the start
abbrev pub IsNameKept : {target : Target} {text : Text} → Method target text → Registers → Registers → ℕ → Type 0
IsNameKept method started mirror n = IsTrue method.wrapup × ((r : ℕ) × IsKept method.op (Ref r) × (node_in mirror r ≡ n) × (node_in started r ≡ n))
