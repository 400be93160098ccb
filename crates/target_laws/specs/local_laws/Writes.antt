-- What registers hold after a write, for the eight of each kind that a caller has.
use Rattle.std.specs.Prelude.{◌≡◌, ℕ, ◌<◌, false, List, length, Some, IsTrue}
use Rattle.norm_lang.specs.declared.text.Reg.{Reg}
use Rattle.norm_lang.specs.declared.text.Reg.TheVariants.{Num, Ref}
use Rattle.norm_lang.specs.declared.text.Instr.{Instr}
use Rattle.norm_lang.specs.declared.registers.Reference.{Reference}
use Rattle.norm_lang.specs.declared.registers.Registers.{Registers}
use Rattle.norm_lang.specs.Registers.{no_reference, first_registers, number_in, reference_in, with_number, with_reference, moved}
use Rattle.norm_lang.specs.RegisterUse.{same_register}
use Rattle.norm_lang.specs.InstructionRules.{are_of_two_kinds}
use Rattle.norm_lang.specs.Limits.{is_register}
use Rattle.norm_lang.specs.Local.{Spot, local_step}

-- eight registers of each kind
abbrev pub AreEight : Registers → Type 0
AreEight registers = (length registers.numbers ≡ 8) × (length registers.references ≡ 8)

-- a register holds this number and this reference. One of them says nothing: a register of references holds the number 0,
-- and one of numbers the reference null
abbrev pub HoldsIn : Registers → Reg → ℕ → Reference → Type 0
HoldsIn registers r number reference = (number_in registers r ≡ number) × (reference_in registers r ≡ reference)

-- a register was written: it holds what was put there, and every other register what it held
pub record IsWritten (d : Reg) (number : ℕ) (reference : Reference) (before after : Registers) : Type 0 where
  pub eight : AreEight after
  pub holds : HoldsIn after d number reference
  pub others : (r : Reg) → same_register r d ≡ false → HoldsIn after r (number_in before r) (reference_in before r)

-- a generator starts with eight of each kind
abbrev pub FirstAreEight : Type 0
FirstAreEight = (args : List ℕ) → AreEight (first_registers args)

-- a number that is put into a register of numbers
abbrev pub NumbersAreWritten : Type 0
NumbersAreWritten =
    (registers : Registers) (d value : ℕ) → AreEight registers → d < 8
    → IsWritten (Num d) value no_reference registers (with_number registers (Num d) value)

-- a reference that is put into a register of references
abbrev pub ReferencesAreWritten : Type 0
ReferencesAreWritten =
    (registers : Registers) (d : ℕ) (value : Reference) → AreEight registers → d < 8
    → IsWritten (Ref d) 0 value registers (with_reference registers (Ref d) value)

-- a register that becomes another of its kind
abbrev pub MovesAreWritten : Type 0
MovesAreWritten =
    (registers : Registers) (d a : Reg) → AreEight registers → IsTrue (is_register d) → are_of_two_kinds d a ≡ false
    → IsWritten d (number_in registers a) (reference_in registers a) registers (moved registers d a)

-- local code keeps eight of each kind
abbrev pub LocalCodeKeepsEight : Type 0
LocalCodeKeepsEight =
    (i : Instr) (here next : Spot) → AreEight here.registers → local_step i here.at here.registers ≡ Some next → AreEight next.registers
