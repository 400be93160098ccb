use Rattle.event_judge.proofs.Verdicts.{accepted_is_true}
use Rattle.event_judge.proofs.laws.accepted_is_true.Goals as goal

pub returns : goal.returns
returns c = accepted_is_true
