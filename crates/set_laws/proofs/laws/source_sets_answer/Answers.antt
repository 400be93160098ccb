use Rattle.set_laws.proofs.Ending.{set_answers}
use Rattle.set_laws.proofs.laws.source_sets_answer.Goals as goal

pub returns : goal.returns
returns c = set_answers
