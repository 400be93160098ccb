use Rattle.run_ahead.proofs.Tests.{operands_agree}
use Rattle.run_ahead.proofs.laws.operands_agree.Goals as goal

pub returns : goal.returns
returns g c = operands_agree _
