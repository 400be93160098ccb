use Rattle.std.proofs.Common.{rules}
use Rattle.text_lines.proofs.steps.read_instr.Goals as goal

pub returns-then-says-4 : goal.returns-then-says-4
returns-then-says-4 c = search rules
