-- Registers of a core caller against those of the source at the same place: references to slots against references to names.
use Rattle.std.specs.Prelude.{◌≡◌, ℕ, ◌⊎◌, false, length, Option, Some, IsTrue}
use Rattle.norm_lang.specs.declared.text.Reg.{Reg}
use Rattle.norm_lang.specs.declared.text.Reg.TheVariants.{Num, Ref}
use Rattle.norm_lang.specs.declared.text.Instr.{Instr}
use Rattle.norm_lang.specs.declared.registers.Reference.{Reference}
use Rattle.norm_lang.specs.declared.registers.Registers.{Registers}
use Rattle.norm_lang.specs.Registers.{number_in, reference_in, node_in}
use Rattle.norm_lang.specs.RegisterUse.{is_register_named, destination, reads}
use Rattle.norm_lang.specs.Local.{Spot, local_step}
use Rattle.target_code.specs.Erasing.{redirected}

-- a reference to a slot stands for one to a name: the slot is the name's home, and the marks are the same
abbrev pub StandsFor : (ℕ → ℕ) → Reference → Reference → Type 0
StandsFor home here there = (here.node ≡ home there.node) × (here.marked ≡ there.marked)

-- a register holds the same on both sides
abbrev pub Agree : (ℕ → ℕ) → Registers → Registers → Reg → Type 0
Agree home here mirror (Num r) = number_in here (Num r) ≡ number_in mirror (Num r)
Agree home here mirror (Ref r) = StandsFor home (reference_in here (Ref r)) (reference_in mirror (Ref r))

-- both sides have as many registers
abbrev pub HaveSameSize : Registers → Registers → Type 0
HaveSameSize here mirror = (length here.numbers ≡ length mirror.numbers) × (length here.references ≡ length mirror.references)

-- names with a property have different homes
abbrev pub AreApart : (ℕ → ℕ) → (ℕ → Type 0) → Type 0
AreApart home P = (m n : ℕ) → P m → P n → home m ≡ home n → m ≡ n

-- both sides change one register at most, and the name that it then holds is null or the given one. `Set` is what is known
-- of the changed register's agreement
pub record Changes (home : ℕ → ℕ) (Set : Type 0 → Type 0) (changed : Option Reg) (given : ℕ) (here mirror here' mirror' : Registers) : Type 0 where
  pub sized : HaveSameSize here' mirror'
  pub set : (r : Reg) → IsTrue (is_register_named r changed) → Set (Agree home here' mirror' r)
  pub kept : (r : Reg) → is_register_named r changed ≡ false → Agree home here mirror r → Agree home here' mirror' r
  pub gives : (r : ℕ) → IsTrue (is_register_named (Ref r) changed) → (node_in mirror' r ≡ 0) ⊎ (node_in mirror' r ≡ given)
  pub leaves : (r : ℕ) → is_register_named (Ref r) changed ≡ false → node_in mirror' r ≡ node_in mirror r

-- the source's instruction makes the core's local step too, and comes to the source place of where that leads
pub record Mirrors (home place : ℕ → ℕ) (i : Instr) (at : ℕ) (here mirror : Registers) (next : Spot) : Type 0 where
  pub mirror' : Registers
  pub given : ℕ
  pub steps : local_step (redirected place i) (place at) mirror ≡ Some (record { at = place next.at; registers = mirror' })
  pub changes : Changes home (λ A. A) (destination i) given here mirror next.registers mirror'
  -- what is put into the changed register is null, or was in a register that the instruction reads
  pub known : (given ≡ 0) ⊎ ((r : ℕ) × IsTrue (reads (Ref r) i) × (node_in mirror r ≡ given))
