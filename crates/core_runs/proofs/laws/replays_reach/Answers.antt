use Rattle.core_runs.proofs.Replaying.{replays_reach}
use Rattle.core_runs.proofs.laws.replays_reach.Goals as goal

pub returns : goal.returns
returns c = replays_reach
