use Rattle.text_laws.proofs.LinesAndWordsAre.{names_are_short}
use Rattle.text_laws.proofs.laws.names_are_short.Goals as goal

pub returns : goal.returns
returns c = names_are_short
