use Rattle.emission_laws.proofs.Fitting.{instructions_fit}
use Rattle.emission_laws.proofs.laws.instructions_fit.Goals as goal

pub returns : goal.returns
returns c = instructions_fit
