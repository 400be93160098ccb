-- Answers, as they are told.
use Rattle.std.specs.Prelude.{ℕ, Option, Some, None, Result, Ok, Err}
use Rattle.norm_check.specs.declared.refusal.CheckError.{CheckError}
use Rattle.norm_check.specs.declared.refusal.CheckError.TheVariants as checks
use Rattle.oa_words.specs.declared.shape.ShapeFault.{ShapeFault as SizesFault}
use Rattle.oa_words.specs.declared.shape.ShapeFault.TheVariants as sizes
use Rattle.script_plans.specs.declared.fault.ShapeFault.{ShapeFault}
use Rattle.script_plans.specs.declared.fault.RunFault.{RunFault}
use Rattle.script_plans.specs.declared.fault.RunFault.TheVariants as faults

abbrev pub fault_told : ShapeFault → RunFault
fault_told fault = faults.Shape fault.number fault.at

abbrev pub refusal_told : CheckError → RunFault
refusal_told checks.Memory = faults.Memory
refusal_told (checks.Refused refusal) = faults.Refused refusal

-- the numbers of what is wrong with the sizes of a row. A document never has too many kinds
abbrev pub sizes_number : SizesFault → ℕ
sizes_number sizes.Callers = 1
sizes_number sizes.Kinds = 2
sizes_number sizes.Slots = 2
sizes_number sizes.Fields = 3
sizes_number sizes.Cells = 4

-- this, unless there is a fault
abbrev pub or_fault : {A : Type 0} → Option ShapeFault → A → Result A ShapeFault
or_fault None x = Ok x
or_fault (Some fault) x = Err fault
