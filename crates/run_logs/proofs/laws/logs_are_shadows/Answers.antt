use Rattle.run_logs.proofs.Following.{logs_are_shadows}
use Rattle.run_logs.proofs.laws.logs_are_shadows.Goals as goal

pub returns : goal.returns
returns c = logs_are_shadows
