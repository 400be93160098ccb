-- What the register at fault has to do with the broken rule.
use Rattle.std.specs.Prelude.{ℕ, Bool, not, IsTrue}
use Rattle.norm_lang.specs.declared.text.Reg.{Reg}
use Rattle.norm_lang.specs.declared.text.Instr.{Instr}
use Rattle.norm_lang.specs.declared.text.Op.{Op}
use Rattle.norm_lang.specs.declared.text.Text.{Text}
use Rattle.norm_lang.specs.Kinds.{picks_several}
use Rattle.norm_lang.specs.NormalForm.{Rule, N1, N2, N3, N4, N5, N6, N7, N8, N9, N10, N11, N12, N13, N14, N15, BreaksRule}
use Rattle.rule_registers.specs.AtFault.{IsAtFault}

-- a register is at fault by a rule only if the instruction breaks it
abbrev pub BlamedIsBroken : Type 0
BlamedIsBroken = (rule : Rule) (text : Text) (op : Op) (wrapup : Bool) (at : ℕ) (i : Instr) (r : Reg) → IsAtFault rule text op wrapup at i r → BreaksRule rule text op wrapup at i

-- the rule is one that registers break: not N3, N7, N8 or N13, nor N4 in a wrap-up, where any put breaks it, nor N15 by a pick of
-- roots of several kinds
abbrev pub IsOfRegisters : Rule → Text → Bool → Instr → Type 0
IsOfRegisters N1 text wrapup i = Unit {0}
IsOfRegisters N2 text wrapup i = Unit {0}
IsOfRegisters N3 text wrapup i = ⊥
IsOfRegisters N4 text wrapup i = IsTrue (not wrapup)
IsOfRegisters N5 text wrapup i = Unit {0}
IsOfRegisters N6 text wrapup i = Unit {0}
IsOfRegisters N7 text wrapup i = ⊥
IsOfRegisters N8 text wrapup i = ⊥
IsOfRegisters N9 text wrapup i = Unit {0}
IsOfRegisters N10 text wrapup i = Unit {0}
IsOfRegisters N11 text wrapup i = Unit {0}
IsOfRegisters N12 text wrapup i = Unit {0}
IsOfRegisters N13 text wrapup i = ⊥
IsOfRegisters N14 text wrapup i = Unit {0}
IsOfRegisters N15 text wrapup i = IsTrue (not (picks_several text.roots i))

-- if an instruction breaks such a rule, some register is at fault
abbrev pub BrokenIsBlamed : Type 0
BrokenIsBlamed = (rule : Rule) (text : Text) (op : Op) (wrapup : Bool) (at : ℕ) (i : Instr) → IsOfRegisters rule text wrapup i → BreaksRule rule text op wrapup at i → (r : Reg) × IsAtFault rule text op wrapup at i r
