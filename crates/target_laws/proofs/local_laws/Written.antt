-- What registers hold after a write.
use Rattle.std.proofs.Common.{◌≡◌, ℕ, ◌<◌, true, false, get_or, Option, Some, None, refl, sym, subst, ◌∙◌}
use Rattle.std.proofs.lemmas.Bool.{eqb-false, ltb-true}
use Rattle.std.proofs.lemmas.List.{length-set, get_or-set_same, get_or-set_other}
use Rattle.std.proofs.lemmas.Option.{unwrap_or-slice_get}
use Rattle.norm_lang.specs.declared.text.Reg.{Reg}
use Rattle.norm_lang.specs.declared.text.Reg.TheVariants.{Num, Ref}
use Rattle.norm_lang.specs.declared.text.Instr.{Instr}
use Rattle.norm_lang.specs.declared.text.Instr.TheVariants as instr
use Rattle.norm_lang.specs.declared.registers.Reference.{Reference}
use Rattle.norm_lang.specs.declared.registers.Registers.{Registers}
use Rattle.norm_lang.specs.Registers.{no_reference, number_in, reference_in, with_number, with_reference, moved}
use Rattle.norm_lang.specs.RegisterUse.{same_register}
use Rattle.norm_lang.specs.Local.{Spot, local_step}
use Rattle.target_laws.specs.local_laws.Writes.{AreEight, HoldsIn, FirstAreEight, NumbersAreWritten, ReferencesAreWritten, MovesAreWritten, LocalCodeKeepsEight}

pub first_are_eight : FirstAreEight
first_are_eight args = (refl, refl)

-- ---- a write keeps the count of registers

number_keeps_eight : (registers : Registers) (d : Reg) (value : ℕ) → AreEight registers → AreEight (with_number registers d value)
number_keeps_eight registers (Num d) value eight = (length-set registers.numbers d value ∙ eight.0, eight.1)
number_keeps_eight registers (Ref d) value eight = eight

reference_keeps_eight : (registers : Registers) (d : Reg) (value : Reference) → AreEight registers → AreEight (with_reference registers d value)
reference_keeps_eight registers (Num d) value eight = eight
reference_keeps_eight registers (Ref d) value eight = (eight.0, length-set registers.references d value ∙ eight.1)

move_keeps_eight : (registers : Registers) (d a : Reg) → AreEight registers → AreEight (moved registers d a)
move_keeps_eight registers d (Num a) eight = number_keeps_eight registers d (number_in registers (Num a)) eight
move_keeps_eight registers d (Ref a) eight = reference_keeps_eight registers d (reference_in registers (Ref a)) eight

-- ---- what is read afterwards

-- the reference in a register, by the list alone
reference_at : (registers : Registers) (r : ℕ) → reference_in registers (Ref r) ≡ get_or registers.references r no_reference
reference_at registers r = unwrap_or-slice_get registers.references r no_reference

pub numbers_are_written : NumbersAreWritten
numbers_are_written registers d value eight lt = record {
  eight = number_keeps_eight registers (Num d) value eight;
  holds = (get_or-set_same registers.numbers d value 0 (subst (λ (n : ℕ). d < n) (sym eight.0) lt), refl);
  others = others;
}
  where
    others : (r : Reg) → same_register r (Num d) ≡ false → HoldsIn (with_number registers (Num d) value) r (number_in registers r) (reference_in registers r)
    others (Num r) other = (get_or-set_other registers.numbers d r value 0 (eqb-false r d other), refl)
    others (Ref r) other = (refl, refl)

pub references_are_written : ReferencesAreWritten
references_are_written registers d value eight lt = record {
  eight = reference_keeps_eight registers (Ref d) value eight;
  holds = (refl, reference_at (with_reference registers (Ref d) value) d ∙ get_or-set_same registers.references d value no_reference (subst (λ (n : ℕ). d < n) (sym eight.1) lt));
  others = others;
}
  where
    others : (r : Reg) → same_register r (Ref d) ≡ false → HoldsIn (with_reference registers (Ref d) value) r (number_in registers r) (reference_in registers r)
    others (Num r) other = (refl, refl)
    others (Ref r) other = (
      refl,
      reference_at (with_reference registers (Ref d) value) r ∙ (get_or-set_other registers.references d r value no_reference (eqb-false r d other) ∙ sym (reference_at registers r)),
    )

pub moves_are_written : MovesAreWritten
moves_are_written registers (Num d) (Num a) eight is kinds = numbers_are_written registers d (number_in registers (Num a)) eight (ltb-true d 8 is)
moves_are_written registers (Ref d) (Ref a) eight is kinds = references_are_written registers d (reference_in registers (Ref a)) eight (ltb-true d 8 is)
moves_are_written registers (Num d) (Ref a) eight is kinds = absurd (let no : true ≡ false = kinds in cc)
moves_are_written registers (Ref d) (Num a) eight is kinds = absurd (let no : true ≡ false = kinds in cc)

-- ---- local code

AreEightAt : Option Spot → Type 0
AreEightAt None = Unit {0}
AreEightAt (Some spot) = AreEight spot.registers

step_keeps_eight : (i : Instr) (at : ℕ) (registers : Registers) → AreEight registers → AreEightAt (local_step i at registers)
unfolding AreEightAt
step_keeps_eight (instr.Set d n) at registers eight = number_keeps_eight registers d _ eight
step_keeps_eight (instr.Mov d a) at registers eight = move_keeps_eight registers d a eight
step_keeps_eight (instr.Add d a b) at registers eight = number_keeps_eight registers d _ eight
step_keeps_eight (instr.Sub d a b) at registers eight = number_keeps_eight registers d _ eight
step_keeps_eight (instr.Rem d a n) at registers eight = number_keeps_eight registers d _ eight
step_keeps_eight (instr.Null d) at registers eight = reference_keeps_eight registers d _ eight
step_keeps_eight (instr.Mark d a) at registers eight = reference_keeps_eight registers d _ eight
step_keeps_eight (instr.Unmark d a) at registers eight = reference_keeps_eight registers d _ eight
step_keeps_eight (instr.Jump l) at registers eight = eight
step_keeps_eight (instr.IfEq a b l) at registers eight = eight
step_keeps_eight (instr.IfLess a b l) at registers eight = eight
step_keeps_eight (instr.IfMarked a l) at registers eight = eight
step_keeps_eight _ at registers eight = tt

pub local_code_keeps_eight : LocalCodeKeepsEight
unfolding AreEightAt
local_code_keeps_eight i here next eight is = subst (λ o. AreEightAt o) is (step_keeps_eight i here.at here.registers eight)
