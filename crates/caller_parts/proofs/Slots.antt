-- Nodes that are slots.
use Rattle.std.proofs.Common.{◌<◌, ◌^◌}
use Rattle.norm_lang.specs.declared.text.Reg.{Reg}
use Rattle.norm_lang.specs.declared.registers.Registers.{Registers}
use Rattle.norm_lang.specs.Registers.{reference_in}
use Rattle.caller_parts.specs.Operands.{AreSlots}

pub slot_fits : (registers : Registers) (r : Reg) → AreSlots registers → (reference_in registers r).node < 2 ^ 32
slot_fits registers r slots = slots.each r
