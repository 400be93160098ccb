use Rattle.argument_rows.proofs.Proper.{losing_is_proper}
use Rattle.argument_rows.proofs.losing_is_proper.Goals as goal

pub returns-clause-proper : goal.returns-clause-proper
returns-clause-proper c = losing_is_proper
