use Rattle.c_rows.proofs.Claiming.{claim_rows}
use Rattle.c_rows.proofs.claim_rows.Goals as goal

pub returns : goal.returns
returns c = claim_rows
