use Rattle.wrong_sets.proofs.Worked.{unchecking_is_improper}
use Rattle.wrong_sets.proofs.laws.unchecking_is_improper.Goals as goal

pub returns : goal.returns
returns c = unchecking_is_improper
