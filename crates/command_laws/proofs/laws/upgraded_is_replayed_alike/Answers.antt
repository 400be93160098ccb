use Rattle.command_laws.proofs.RoundTrips.{spelled_alike, upgraded_alike}
use Rattle.command_laws.proofs.laws.upgraded_is_replayed_alike.Goals as goal

pub returns-clause-spelled : goal.returns-clause-spelled
returns-clause-spelled c = spelled_alike c.spellings_are_read.ensures c.alike_documents_are_replayed_alike.ensures

pub returns-clause-upgraded : goal.returns-clause-upgraded
returns-clause-upgraded c = upgraded_alike c.spellings_are_read.ensures c.alike_documents_are_replayed_alike.ensures
