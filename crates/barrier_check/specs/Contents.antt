-- What an instruction says that neither jumps nor commits. Two such instructions that say the same are the same.
use Rattle.std.specs.Prelude.{Option, Some, None}
use Rattle.norm_lang.specs.declared.text.Reg.{Reg}
use Rattle.norm_lang.specs.declared.text.Instr.{Instr}
use Rattle.norm_lang.specs.declared.text.Instr.TheVariants as instr
use Rattle.barrier_check.specs.declared.content.Kind.TheVariants as kinds
use Rattle.barrier_check.specs.declared.content.Operands.{Operands}
use Rattle.barrier_check.specs.declared.content.Content.{Content}

abbrev pub no_operand : Operands
no_operand = record { first = None; second = None; third = None }

abbrev pub one_operand : Reg → Operands
one_operand first = record { first = Some first; second = None; third = None }

abbrev pub two_operands : Reg → Reg → Operands
two_operands first second = record { first = Some first; second = Some second; third = None }

abbrev pub three_operands : Reg → Reg → Reg → Operands
three_operands first second third = record { first = Some first; second = Some second; third = Some third }

abbrev pub content_of : Instr → Option Content
content_of (instr.Set d n) = Some (record { kind = kinds.Set; operands = one_operand d; number = n; count = 0 })
content_of (instr.Mov d a) = Some (record { kind = kinds.Mov; operands = two_operands d a; number = 0; count = 0 })
content_of (instr.Add d a b) = Some (record { kind = kinds.Add; operands = three_operands d a b; number = 0; count = 0 })
content_of (instr.Sub d a b) = Some (record { kind = kinds.Sub; operands = three_operands d a b; number = 0; count = 0 })
content_of (instr.Rem d a n) = Some (record { kind = kinds.Rem; operands = two_operands d a; number = n; count = 0 })
content_of (instr.Mark d a) = Some (record { kind = kinds.Mark; operands = two_operands d a; number = 0; count = 0 })
content_of (instr.Unmark d a) = Some (record { kind = kinds.Unmark; operands = two_operands d a; number = 0; count = 0 })
content_of (instr.Null d) = Some (record { kind = kinds.Null; operands = one_operand d; number = 0; count = 0 })
content_of (instr.LoadRoot d x) = Some (record { kind = kinds.LoadRoot; operands = one_operand d; number = x; count = 0 })
content_of (instr.LoadPick d x n a) = Some (record { kind = kinds.LoadPick; operands = two_operands d a; number = x; count = n })
content_of (instr.LoadField d a x) = Some (record { kind = kinds.LoadField; operands = two_operands d a; number = x; count = 0 })
content_of (instr.New d kind) = Some (record { kind = kinds.New; operands = one_operand d; number = kind; count = 0 })
content_of (instr.Put a x b) = Some (record { kind = kinds.Put; operands = two_operands a b; number = x; count = 0 })
content_of (instr.Return a) = Some (record { kind = kinds.Return; operands = one_operand a; number = 0; count = 0 })
content_of instr.ReturnNone = Some (record { kind = kinds.ReturnNone; operands = no_operand; number = 0; count = 0 })
content_of instr.Again = Some (record { kind = kinds.Again; operands = no_operand; number = 0; count = 0 })
content_of i = None
