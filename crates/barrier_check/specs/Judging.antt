-- The limits of a target's parts.
use Rattle.std.specs.Prelude.{ℕ, IsTrue}
use Rattle.target_code.specs.declared.target.TargetInstr.{TargetInstr}
use Rattle.target_code.specs.declared.target.TargetOp.{TargetOp}
use Rattle.target_code.specs.TargetLimits.{is_target_instr, is_target_op}

-- an operation of a target within the limits
abbrev pub IsTargetOpWithin : TargetOp → Type 0
IsTargetOpWithin op = (kinds fields roots : ℕ) × IsTrue (is_target_op kinds fields roots op)

-- an instruction of one
abbrev pub IsTargetInstrWithin : TargetInstr → Type 0
IsTargetInstrWithin i = (kinds fields roots : ℕ) × IsTrue (is_target_instr kinds fields roots i)
