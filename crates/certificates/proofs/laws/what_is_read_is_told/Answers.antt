use Rattle.certificates.proofs.WhatIsRead.{what_is_read_is_told}
use Rattle.certificates.proofs.laws.what_is_read_is_told.Goals as goal

pub returns : goal.returns
returns c = what_is_read_is_told
