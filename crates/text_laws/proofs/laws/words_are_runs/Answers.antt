use Rattle.text_laws.proofs.LinesAndWordsAre.{words_are_runs}
use Rattle.text_laws.proofs.laws.words_are_runs.Goals as goal

pub returns : goal.returns
returns c = words_are_runs
