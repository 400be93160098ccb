use Rattle.std.proofs.Common.{rules}
use Rattle.oa_core.proofs.replaying.error_of.Goals as goal

pub returns-in-LongReplay : goal.returns-in-LongReplay
returns-in-LongReplay c = search rules
