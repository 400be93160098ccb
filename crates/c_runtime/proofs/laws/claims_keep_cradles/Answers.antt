use Rattle.c_runtime.proofs.Cradles.{claims_keep_cradles}
use Rattle.c_runtime.proofs.laws.claims_keep_cradles.Goals as goal

pub returns : goal.returns
returns c = claims_keep_cradles
