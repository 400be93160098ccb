use Rattle.std.proofs.Common.{rules}
use Rattle.text_lines.proofs.instructions.sub.Goals as goal

pub returns : goal.returns
returns c = search rules
