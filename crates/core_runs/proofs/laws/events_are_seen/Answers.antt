use Rattle.core_runs.proofs.Seeing.{events_are_seen}
use Rattle.core_runs.proofs.laws.events_are_seen.Goals as goal

pub returns : goal.returns
returns c = events_are_seen
