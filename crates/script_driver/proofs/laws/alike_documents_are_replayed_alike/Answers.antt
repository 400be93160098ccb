use Rattle.script_driver.proofs.Alike.{alike_documents_are_replayed_alike}
use Rattle.script_driver.proofs.laws.alike_documents_are_replayed_alike.Goals as goal

pub returns : goal.returns
returns c = alike_documents_are_replayed_alike
