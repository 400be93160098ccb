use Rattle.std.proofs.Common.{rules}
use Rattle.barrier_compiler.proofs.guards.guarded.Goals as goal

pub returns : goal.returns
returns c = search rules
