-- A caller's guards against its registers, by what became of them along its path. They are read with names, as the source's
-- registers are: `registers` is the mirror, and a guard of null protects nothing.
use Rattle.std.specs.Prelude.{◌≡◌, ℕ, ◌⊎◌, Bool, true, false, not, List, ◌==◌, if◌then◌else◌}
use Rattle.norm_lang.specs.declared.text.Reg.{Reg}
use Rattle.norm_lang.specs.declared.text.Reg.TheVariants.{Num, Ref}
use Rattle.norm_lang.specs.declared.text.Text.{Text}
use Rattle.norm_lang.specs.declared.registers.Registers.{Registers}
use Rattle.norm_lang.specs.Grammar.{is_new}
use Rattle.norm_lang.specs.Registers.{node_in}
use Rattle.target_code.specs.declared.target.Target.{Target}
use Rattle.target_code.specs.declared.target.TargetInstr.{TargetInstr}
use Rattle.target_code.specs.declared.target.TargetInstr.TheVariants.{Plain, Check, Guard}
use Rattle.target_code.specs.Flaws.{GuardState, Free, Published, Validated, Dropped}
use Rattle.target_laws.specs.Methods.{Method, code_in}
use Rattle.target_laws.specs.Uses.{guard_along}

-- for each register of references the name that its guard publishes, 0 for none, and whether a check after it has passed
pub record GuardRow : Type 0 where
  pub name : ℕ → ℕ
  pub valid : ℕ → Bool

abbrev pub no_guards : GuardRow
no_guards = record { name = λ r. 0; valid = λ r. false }

-- a check passes: each name that is published is validated
abbrev pub validated : GuardRow → GuardRow
validated row = record row { valid = λ r. not (row.name r == 0) }

-- a register's name is published
abbrev pub published : Reg → Registers → GuardRow → GuardRow
published (Num k) registers row = row
published (Ref k) registers row = record { name = λ r. if r == k then node_in registers k else row.name r; valid = λ r. if r == k then false else row.valid r }

-- the guards after an instruction; a `new` clears them
abbrev pub guards_after : TargetInstr → Registers → GuardRow → GuardRow
guards_after (Plain i) registers row = if is_new i then no_guards else row
guards_after Check registers row = validated row
guards_after (Guard a) registers row = published a registers row

-- a register is under a validated guard, or holds null
abbrev pub IsUnderGuard : Registers → GuardRow → ℕ → Type 0
IsUnderGuard registers row r = (row.name r ≡ node_in registers r) × ((row.valid r ≡ true) ⊎ (row.name r ≡ 0))

-- the guard of a register by its state: once published, it is what the register holds
abbrev pub GuardStands : GuardState → Registers → GuardRow → ℕ → Type 0
GuardStands Free registers row r = Unit {0}
GuardStands Published registers row r = row.name r ≡ node_in registers r
GuardStands Validated registers row r = IsUnderGuard registers row r
GuardStands Dropped registers row r = Unit {0}

-- and so is that of each, along a path
abbrev pub GuardsStand : {target : Target} {text : Text} → Method target text → List ℕ → Registers → GuardRow → Type 0
GuardsStand method path registers row = (r : ℕ) → GuardStands (guard_along (code_in method) path (Ref r)) registers row r
