use Rattle.std.proofs.Common.{arith}
use Rattle.std.proofs.lemmas.Grind.{common_steps}
use Rattle.command_input.proofs.command.request_of.Goals as goal

pub returns-then-eq-clause-request : goal.returns-then-eq-clause-request
returns-then-eq-clause-request c = grind (arith, common_steps)
