use Rattle.std.proofs.Common.{rules}
use Rattle.phase_pools.proofs.claim.ClaimState.takes.Goals as goal

pub returns-in-Take : goal.returns-in-Take
returns-in-Take c = search rules
