use Rattle.outcome_laws.proofs.Causing.{outcomes_are_caused}
use Rattle.outcome_laws.proofs.laws.outcomes_are_caused.Goals as goal

pub returns : goal.returns
returns c = outcomes_are_caused
