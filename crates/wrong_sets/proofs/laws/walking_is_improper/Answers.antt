use Rattle.wrong_sets.proofs.Worked.{walking_is_improper}
use Rattle.wrong_sets.proofs.laws.walking_is_improper.Goals as goal

pub returns : goal.returns
returns c = walking_is_improper
