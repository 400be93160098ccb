use Rattle.std.proofs.Common.{rules}
use Rattle.barrier_compiler.proofs.guards.add_operands.Goals as goal

pub returns-in-Field : goal.returns-in-Field
returns-in-Field c = search rules
