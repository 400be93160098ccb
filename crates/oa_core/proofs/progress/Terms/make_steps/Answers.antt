use Rattle.std.proofs.Common.{rules}
use Rattle.oa_core.proofs.progress.Terms.make_steps.Goals as goal

pub loop-init : goal.loop-init
loop-init c = search rules
