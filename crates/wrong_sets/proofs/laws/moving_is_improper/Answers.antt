use Rattle.wrong_sets.proofs.Worked.{moving_is_improper}
use Rattle.wrong_sets.proofs.laws.moving_is_improper.Goals as goal

pub returns : goal.returns
returns c = moving_is_improper
