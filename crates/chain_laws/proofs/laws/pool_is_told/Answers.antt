use Rattle.chain_laws.proofs.Told.{pool_is_told}
use Rattle.chain_laws.proofs.laws.pool_is_told.Goals as goal

pub returns : goal.returns
returns c = pool_is_told
