use Rattle.std.proofs.Common.{rules}
use Rattle.text_lines.proofs.declarations.field.Goals as goal

pub returns : goal.returns
returns c = search rules
