use Rattle.certificates.proofs.ReadBack.{certificates_are_read}
use Rattle.certificates.proofs.laws.certificates_are_read.Goals as goal

pub returns : goal.returns
returns c = certificates_are_read
