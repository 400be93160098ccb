use Rattle.emission_laws.proofs.Layouts.{operations_stand}
use Rattle.emission_laws.proofs.laws.operations_stand.Goals as goal

pub returns : goal.returns
returns c = operations_stand
