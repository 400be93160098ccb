use Rattle.event_judge.proofs.Rejections.{verdicts_are_right}
use Rattle.event_judge.proofs.laws.verdicts_are_right.Goals as goal

pub returns : goal.returns
returns c = verdicts_are_right
