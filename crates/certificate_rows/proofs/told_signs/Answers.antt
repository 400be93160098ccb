use Rattle.certificate_rows.proofs.Counters.{told_signs}
use Rattle.certificate_rows.proofs.told_signs.Goals as goal

pub returns : goal.returns
returns c = told_signs
