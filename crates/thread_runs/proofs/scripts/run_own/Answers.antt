use Rattle.thread_runs.proofs.Halves.{finished_own}
use Rattle.thread_runs.proofs.scripts.run_own.Goals as goal

pub returns : goal.returns
returns g c = record { ran = finished_own c.args.arena.now c.args.scripts.now c.args.fuel c.args.caller.now c.run_script.new.caller c.items.result.now c.index-scripts-number.result c.number-number.result c.requires.fresh c.number-number.ensures c.index-scripts-number.is c.items.ensures c.run_script.ensures.ran }
