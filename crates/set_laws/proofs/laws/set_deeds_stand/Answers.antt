use Rattle.set_laws.proofs.Ending.{set_deeds_stand}
use Rattle.set_laws.proofs.laws.set_deeds_stand.Goals as goal

pub returns : goal.returns
returns c = set_deeds_stand
