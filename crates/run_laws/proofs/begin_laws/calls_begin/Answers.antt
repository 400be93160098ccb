use Rattle.run_laws.proofs.begin_laws.RunsBegun.{calls_begin}
use Rattle.run_laws.proofs.begin_laws.calls_begin.Goals as goal

pub returns : goal.returns
returns c = calls_begin
