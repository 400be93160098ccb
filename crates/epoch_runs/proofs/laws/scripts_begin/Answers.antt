use Rattle.epoch_runs.proofs.ScriptsBegun.{scripts_begin}
use Rattle.epoch_runs.proofs.laws.scripts_begin.Goals as goal

pub returns : goal.returns
returns c = scripts_begin
