use Rattle.std.proofs.Common.{arith}
use Rattle.std.proofs.lemmas.Grind.{common_steps}
use Rattle.command_input.proofs.command.workload_in.Goals as goal

pub returns-in_ok-callers-in-len2 : goal.returns-in_ok-callers-in-len2
returns-in_ok-callers-in-len2 c = grind (arith, common_steps)
