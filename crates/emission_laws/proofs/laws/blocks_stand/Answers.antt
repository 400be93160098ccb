use Rattle.emission_laws.proofs.Layouts.{blocks_stand}
use Rattle.emission_laws.proofs.laws.blocks_stand.Goals as goal

pub returns : goal.returns
returns c = blocks_stand
