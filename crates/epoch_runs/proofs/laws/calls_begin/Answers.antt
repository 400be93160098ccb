use Rattle.epoch_runs.proofs.ScriptsBegun.{calls_begin}
use Rattle.epoch_runs.proofs.laws.calls_begin.Goals as goal

pub returns : goal.returns
returns c = calls_begin
