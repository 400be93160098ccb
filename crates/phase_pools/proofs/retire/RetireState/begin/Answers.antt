use Rattle.std.proofs.Common.{rules}
use Rattle.phase_pools.proofs.retire.RetireState.begin.Goals as goal

pub returns : goal.returns
returns c = search rules
