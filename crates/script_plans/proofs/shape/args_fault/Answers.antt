use Rattle.std.proofs.Common.{rules}
use Rattle.script_plans.proofs.shape.args_fault.Goals as goal

pub returns-in-None : goal.returns-in-None
returns-in-None c = search rules

pub returns-else-items-op : goal.returns-else-items-op
returns-else-items-op c = search rules
