use Rattle.thread_runs.specs.Scripts.{Going}
use Rattle.thread_runs.proofs.scripts.run_script.Given as goal

abbrev pub invariant-loop-index : goal.invariant-loop-index
invariant-loop-index g l = Going l.arena l.script l.fuel l.index l.fn.caller l.caller
