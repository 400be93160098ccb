use Rattle.std.proofs.Common.{rules}
use Rattle.oa_core.proofs.replaying.CoreState.entries.Goals as goal

pub returns : goal.returns
returns c = search rules
