use Rattle.core_runs.proofs.Reaching.{events_lead}
use Rattle.core_runs.proofs.laws.events_lead.Goals as goal

pub returns : goal.returns
returns c = events_lead
