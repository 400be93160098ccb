use Rattle.target_laws.proofs.target_runs.SaneTargets.{runnable_is_sane}
use Rattle.target_laws.proofs.target_runs.runnable_is_sane.Goals as goal

pub returns : goal.returns
returns c = runnable_is_sane
