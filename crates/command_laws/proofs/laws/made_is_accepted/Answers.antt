use Rattle.command_laws.proofs.RoundTrips.{made_is_accepted}
use Rattle.command_laws.proofs.laws.made_is_accepted.Goals as goal

pub returns : goal.returns
returns c = made_is_accepted c.certificates_are_read.ensures c.alike_documents_are_replayed_alike.ensures c.set_is_proper.ensures c.queue_is_proper.ensures
