use Rattle.text_laws.proofs.LinesAndWordsAre.{lines_are_cut}
use Rattle.text_laws.proofs.laws.lines_are_cut.Goals as goal

pub returns : goal.returns
returns c = lines_are_cut
