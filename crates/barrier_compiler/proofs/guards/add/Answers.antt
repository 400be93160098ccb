use Rattle.std.proofs.Common.{rules}
use Rattle.barrier_compiler.proofs.guards.add.Goals as goal

pub returns-in_ok-push : goal.returns-in_ok-push
returns-in_ok-push c = search rules
