use Rattle.std.proofs.Common.{rules}
use Rattle.phase_pools.proofs.slots.first_slot.Goals as goal

pub returns-clause-first : goal.returns-clause-first
returns-clause-first c = search rules
