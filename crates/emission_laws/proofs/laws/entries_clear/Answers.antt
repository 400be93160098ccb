use Rattle.emission_laws.proofs.Clears.{entries_clear}
use Rattle.emission_laws.proofs.laws.entries_clear.Goals as goal

pub returns : goal.returns
returns c = entries_clear
