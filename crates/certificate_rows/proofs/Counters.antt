-- By computing.
use Rattle.std.proofs.Common.{refl}
use Rattle.caller_steps.specs.After.{after, signs}
use Rattle.caller_steps.specs.Wants.{wants}
use Rattle.certificate_rows.specs.CounterCertificates.{CounterCertificate, ToldSigns}

pub counter_certificate : CounterCertificate
unfolding after signs wants
counter_certificate = record { image_is = refl; ends_with = refl; spelled = refl; accepted = refl; kept = refl }

pub told_signs : ToldSigns
unfolding after signs wants
told_signs = record { begin = refl; load = refl; check = refl; exchange = refl; wrap_up = refl; empty_list = refl; again = refl }
