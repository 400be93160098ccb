use Rattle.wrong_sets.proofs.Worked.{unmarking_is_improper}
use Rattle.wrong_sets.proofs.laws.unmarking_is_improper.Goals as goal

pub returns : goal.returns
returns c = unmarking_is_improper
