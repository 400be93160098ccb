-- How long compiled methods are.
use Rattle.std.specs.Prelude.{◌≤◌, List, length}
use Rattle.norm_lang.specs.declared.text.Op.{Op}
use Rattle.target_code.specs.TargetLimits.{most_target_instrs}
use Rattle.target_code.specs.Blocks.{Marked, laid_out}

-- a compiled method is within the limit of instructions of a method
abbrev pub IsShort : Op → List Marked → Type 0
IsShort op marked = length (laid_out op marked) ≤ most_target_instrs
