use Rattle.core_runs.proofs.caller_laws.Together.{stores}
use Rattle.core_runs.proofs.caller_laws.stores_tell_nothing.Goals as goal

pub returns : goal.returns
returns c = stores
