use Rattle.std.proofs.Common.{rules}
use Rattle.script_plans.proofs.shape.op_number.Goals as goal

pub returns-clause-number : goal.returns-clause-number
returns-clause-number c = search rules
