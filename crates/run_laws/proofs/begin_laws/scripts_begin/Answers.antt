use Rattle.run_laws.proofs.begin_laws.ScriptsBegun.{scripts_begin}
use Rattle.run_laws.proofs.begin_laws.scripts_begin.Goals as goal

pub returns : goal.returns
returns c = scripts_begin
