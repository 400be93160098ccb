use Rattle.proper_rows.proofs.Eight.{proper_is_of_eight as of_eight}
use Rattle.proper_rows.proofs.proper_is_of_eight.Goals as goal

pub returns : goal.returns
returns c = of_eight
