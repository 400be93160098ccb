use Rattle.epoch_runs.proofs.Following.{runs_follow_source}
use Rattle.epoch_runs.proofs.laws.runs_follow_source.Goals as goal

pub returns : goal.returns
returns c = runs_follow_source
