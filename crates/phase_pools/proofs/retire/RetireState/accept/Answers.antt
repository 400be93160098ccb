use Rattle.std.proofs.Common.{rules}
use Rattle.phase_pools.proofs.retire.RetireState.accept.Goals as goal

pub returns-in-StoreStatus : goal.returns-in-StoreStatus
returns-in-StoreStatus c = search rules
