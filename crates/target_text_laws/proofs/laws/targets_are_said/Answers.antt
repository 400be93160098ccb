use Rattle.target_text_laws.proofs.TargetsRead.{targets_are_said}
use Rattle.target_text_laws.proofs.laws.targets_are_said.Goals as goal

pub returns : goal.returns
returns c = targets_are_said
