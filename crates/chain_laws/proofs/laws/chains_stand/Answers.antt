use Rattle.chain_laws.proofs.Tops.{chains_stand}
use Rattle.chain_laws.proofs.laws.chains_stand.Goals as goal

pub returns : goal.returns
returns c = chains_stand
