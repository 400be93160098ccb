use Rattle.core_runs.proofs.Keeping.{keeps_calls}
use Rattle.core_runs.proofs.laws.keeps_calls.Goals as goal

pub returns : goal.returns
returns c = keeps_calls
