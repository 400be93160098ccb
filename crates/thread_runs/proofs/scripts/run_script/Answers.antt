use Rattle.std.proofs.Common.{arith}
use Rattle.std.proofs.lemmas.Grind.{common_steps}
use Rattle.thread_runs.proofs.scripts.run_script.Goals as goal

pub loop-index-preserved : goal.loop-index-preserved
loop-index-preserved g c = grind (arith, common_steps)

pub returns-in-Spent : goal.returns-in-Spent
returns-in-Spent g c = grind (arith, common_steps)
