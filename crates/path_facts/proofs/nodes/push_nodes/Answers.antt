use Rattle.std.proofs.Common.{rules}
use Rattle.path_facts.proofs.nodes.push_nodes.Goals as goal

pub returns : goal.returns
returns c = search rules
