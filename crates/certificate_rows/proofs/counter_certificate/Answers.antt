use Rattle.certificate_rows.proofs.Counters.{counter_certificate}
use Rattle.certificate_rows.proofs.counter_certificate.Goals as goal

pub returns : goal.returns
returns c = counter_certificate
