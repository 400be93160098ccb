use Rattle.std.proofs.Common.{rules}
use Rattle.text_lines.proofs.steps.read_entry.Goals as goal

pub returns-then-says-2 : goal.returns-then-says-2
returns-then-says-2 c = search rules
