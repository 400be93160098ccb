use Rattle.oac_cli.proofs.ClaimsFit.{emitted_back}
use Rattle.oac_cli.proofs.laws.emitted_reads_back.Goals as goal

pub returns : goal.returns
returns c = emitted_back
