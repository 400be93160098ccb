use Rattle.std.proofs.Common.{rules}
use Rattle.barrier_check.proofs.barred.verify.Goals as goal

pub returns : goal.returns
returns c = search rules
