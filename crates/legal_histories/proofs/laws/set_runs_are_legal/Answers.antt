use Rattle.legal_histories.proofs.Legal.{sets_are_legal}
use Rattle.legal_histories.proofs.laws.set_runs_are_legal.Goals as goal

pub returns : goal.returns
returns c = sets_are_legal c.source_sets_answer.ensures
