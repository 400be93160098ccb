use Rattle.std.proofs.Common.{rules}
use Rattle.path_facts.proofs.nodes.fork_to.Goals as goal

pub returns : goal.returns
returns c = search rules
