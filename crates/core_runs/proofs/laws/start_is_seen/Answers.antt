use Rattle.core_runs.proofs.Starting.{start_is_seen}
use Rattle.core_runs.proofs.laws.start_is_seen.Goals as goal

pub returns : goal.returns
returns c = start_is_seen
