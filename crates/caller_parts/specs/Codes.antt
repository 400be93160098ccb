-- What a caller runs: a target, or a text that is run as it is; a method's code, and one of its instructions. All are seen as those of a target.
use Rattle.std.specs.Prelude.{List, map, Option, option_map}
use Rattle.target_code.specs.declared.target.Target.{Target}
use Rattle.target_code.specs.declared.target.TargetInstr.{TargetInstr}
use Rattle.target_code.specs.declared.target.TargetInstr.TheVariants as instr
use Rattle.target_code.specs.Bare.{bare}
use Rattle.caller_parts.specs.declared.code.Source.{Source}
use Rattle.caller_parts.specs.declared.code.Source.TheVariants as sources
use Rattle.caller_parts.specs.declared.code.Code.{Code}
use Rattle.caller_parts.specs.declared.code.Code.TheVariants as codes
use Rattle.caller_parts.specs.declared.code.Step.{Step}
use Rattle.caller_parts.specs.declared.code.Step.TheVariants as steps

abbrev pub source_shown : Source → Target
source_shown (sources.Barred target) = target.now
source_shown (sources.Bare text) = bare text.now

abbrev pub code_shown : Code → List TargetInstr
code_shown (codes.Barred code) = code.now
code_shown (codes.Bare code) = map instr.Plain code.now

abbrev pub step_shown : Step → TargetInstr
step_shown (steps.Plain i) = instr.Plain i.now
step_shown steps.Check = instr.Check
step_shown (steps.Guard r) = instr.Guard r

-- the instruction that may stand at a place
abbrev pub shown_at : Option Step → Option TargetInstr
shown_at step = option_map step_shown step
