use Rattle.run_logs.proofs.Following.{steps_are_shadows}
use Rattle.run_logs.proofs.laws.steps_are_shadows.Goals as goal

pub returns : goal.returns
returns c = steps_are_shadows
