use Rattle.c_runtime.proofs.Fitting.{claims_fit}
use Rattle.c_runtime.proofs.laws.claims_fit.Goals as goal

pub returns : goal.returns
returns c = claims_fit
