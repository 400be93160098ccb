use Rattle.chain_laws.proofs.Tops.{tops_stand}
use Rattle.chain_laws.proofs.laws.tops_stand.Goals as goal

pub returns : goal.returns
returns c = tops_stand
