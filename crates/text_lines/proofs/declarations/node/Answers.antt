use Rattle.std.proofs.Common.{rules}
use Rattle.text_lines.proofs.NodeLines.{any_shown}
use Rattle.text_lines.proofs.declarations.node.Goals as goal

pub returns : goal.returns
returns c = search (rules, any_shown)
