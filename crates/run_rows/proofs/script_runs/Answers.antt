use Rattle.run_rows.proofs.ScriptRuns.{script_runs}
use Rattle.run_rows.proofs.script_runs.Goals as goal

pub returns : goal.returns
returns c = script_runs
